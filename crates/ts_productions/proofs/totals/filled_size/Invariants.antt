use Rattle.std.proofs.Common.{take}
use Rattle.ts_productions.specs.Roots.{filled_all}
use Rattle.ts_productions.specs.Sizes.{IsSizeBy, IsSmallSize}
use Rattle.ts_productions.proofs.totals.filled_size.Given as goal

abbrev pub invariant-loop-tree : goal.invariant-loop-tree
invariant-loop-tree l = record {
  small : IsSmallSize l.all;
  size : IsSizeBy l.weights (filled_all (take l.tree-index l.trees)) l.all;
}
