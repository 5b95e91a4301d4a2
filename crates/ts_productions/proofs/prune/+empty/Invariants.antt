use Rattle.std.proofs.Common.{take}
use Rattle.ts_productions.specs.Thin.{AreBlankTrees}
use Rattle.ts_productions.proofs.prune.+empty.Given as goal

abbrev pub invariant-are_empty-loop-tree : goal.invariant-are_empty-loop-tree
invariant-are_empty-loop-tree l = AreBlankTrees (take l.tree-index l.trees)
