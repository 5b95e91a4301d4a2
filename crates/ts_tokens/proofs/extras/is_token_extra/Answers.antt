use Rattle.std.proofs.Common.{IsTrue}
use Rattle.std.specs.List.{Contains}
use Rattle.ts_rules.specs.Sights.{tokens_in, rule_sights}
use Rattle.ts_tokens.specs.Extras.{IsSymbolTree}
use Rattle.ts_tokens.specs.Names.{lent}
use Rattle.ts_tokens.proofs.BoolLemmas.{either_second, both_ways}
use Rattle.ts_tokens.proofs.SameLemmas.{tree_among}
use Rattle.ts_tokens.proofs.extras.is_token_extra.Goals as goal

pub returns-else-is_symbol : goal.returns-else-is_symbol
returns-else-is_symbol c = λ g same.
    let tree = c.args.tree.now in
    either_second (IsSymbolTree tree) (Contains (tokens_in (rule_sights g)) tree) c.is_symbol.result c.contains.result c.if-is_symbol.false c.is_symbol.ensures
    (both_ways (IsTrue c.contains.result) (Contains (lent c.args.tokens.now.keys) tree) (Contains (tokens_in (rule_sights g)) tree) (tree_among tree c.args.tokens.now.keys c.contains.result c.contains.ensures) (same tree))
