use Rattle.std.proofs.Common.{take}
use Rattle.ts_rules.specs.FirstSights.{Picks}
use Rattle.ts_rules.specs.Normal.{IsTokenExtra}
use Rattle.ts_tokens.specs.Extras.{AreRuleTokens}
use Rattle.ts_tokens.specs.Names.{lent}
use Rattle.ts_tokens.proofs.extras.extra_tokens.Given as goal

abbrev pub invariant-loop-tree : goal.invariant-loop-tree
invariant-loop-tree l = AreRuleTokens l.grammar (lent l.tokens.keys) → Picks (IsTokenExtra l.grammar) (take l.tree-index l.tree-items) (lent l.trees.items)
