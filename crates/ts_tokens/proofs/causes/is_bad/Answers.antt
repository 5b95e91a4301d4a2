use Rattle.ts_rules.specs.Names.{told}
use Rattle.ts_tokens.proofs.NameLemmas.{bad_whole}
use Rattle.ts_tokens.proofs.causes.is_bad.Goals as goal

pub returns-else-not-symbol : goal.returns-else-not-symbol
returns-else-not-symbol c = λ g same. bad_whole g (told c.args.token_names.now.keys) c.args.symbol.name.now c.args.symbol.whole c.is_among.result c.if-not-symbol.false c.is_among.ensures same
