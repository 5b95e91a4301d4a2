use Rattle.std.proofs.Common.{take}
use Rattle.ts_tokens.specs.Extras.{ArePickedOf, AreRuleTokens}
use Rattle.ts_tokens.specs.Names.{lent}
use Rattle.ts_tokens.specs.Patterns.{meaning}
use Rattle.ts_tokens.proofs.extras.separators.Given as goal

abbrev pub invariant-loop-tree : goal.invariant-loop-tree
invariant-loop-tree l = AreRuleTokens l.grammar (lent l.tokens.keys) → ArePickedOf l.grammar (meaning l.patterns) (take l.tree-index l.tree-items) l.found
