use Rattle.std.proofs.Common.{take}
use Rattle.ts_productions.specs.Roots.{whole_all}
use Rattle.ts_productions.specs.Sizes.{IsSizeBy, IsSmallSize}
use Rattle.ts_productions.proofs.totals.trees_size.Given as goal

abbrev pub invariant-loop-tree : goal.invariant-loop-tree
invariant-loop-tree l = record {
  small : IsSmallSize l.all;
  size : IsSizeBy l.weights (whole_all (take l.tree-index l.trees)) l.all;
}
