use Rattle.ts_rules.specs.Names.{told}
use Rattle.ts_normalise.proofs.NamedLemmas.{named_added, named_left}
use Rattle.ts_normalise.proofs.names.add_named.Goals as goal

pub returns-in_ok-insert : goal.returns-in_ok-insert
returns-in_ok-insert c = λ g survey. named_added g c.args.names.now.keys c.insert.new.self.keys c.args.name c.names_token.result c.if-names_token.true (c.names_token.ensures g survey) c.in_ok-insert.ensures.keys

pub returns-else-names_token : goal.returns-else-names_token
returns-else-names_token c = λ g survey. named_left g (told c.args.names.now.keys) c.args.name.now c.names_token.result c.if-names_token.false (c.names_token.ensures g survey)
