use Rattle.std.proofs.Common.{◌≡◌, ◌+◌, ◌-◌, ◌≤◌, drop, length, slice_get}
use Rattle.spec_trees.specs.Made.{children_count, fills_in}
use Rattle.ts_node.proofs.fills.fill_among.Given as goal

abbrev pub invariant-loop-element : goal.invariant-loop-element
invariant-loop-element l = record {
  past : l.from ≤ l.k;
  own : l.from + children_count (drop l.element-index l.elements) ≡ length l.children;
  same : slice_get (fills_in (drop l.element-index l.elements) (drop l.from l.children)) (l.k - l.from) ≡ slice_get (fills_in l.elements l.children) l.k;
}
