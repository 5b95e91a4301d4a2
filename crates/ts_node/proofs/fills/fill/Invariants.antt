use Rattle.std.proofs.Common.{◌≡◌, ◌-◌, ◌≤◌, drop, slice_get}
use Rattle.spec_trees.specs.Made.{fills_from}
use Rattle.ts_node.proofs.fills.fill.Given as goal

abbrev pub invariant-loop-i : goal.invariant-loop-i
invariant-loop-i l = record {
  few : l.steps ≤ l.i;
  same : slice_get (fills_from l.steps (drop l.i l.children)) (l.k - l.i) ≡ slice_get (fills_from 0 l.children) l.k;
}
