use Rattle.std.proofs.Common.{◌≡◌, map, take}
use Rattle.ts_rules.specs.Tokens.{tree_re}
use Rattle.ts_tokens.specs.Patterns.{meaning}
use Rattle.ts_tokens.proofs.expression.+expression.Given as goal

abbrev pub invariant-expressions-loop-tree : goal.invariant-expressions-loop-tree
invariant-expressions-loop-tree l = l.parts ≡ map (tree_re (meaning l.patterns)) (take l.tree-index l.trees)
