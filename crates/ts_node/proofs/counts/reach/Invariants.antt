use Rattle.std.proofs.Common.{◌≡◌, ◌+◌, ◌*◌, ◌≤◌, ◌^◌, drop, length, max}
use Rattle.spec_trees.specs.Made.{children_count, reach_of, most_span}
use Rattle.ts_node.proofs.counts.reach.Given as goal

abbrev pub invariant-loop-element : goal.invariant-loop-element
invariant-loop-element l = record {
  own : l.from + children_count (drop l.element-index l.elements) ≡ length l.children;
  reach : max l.reach (l.at + reach_of (drop l.element-index l.elements) (drop l.from l.children)) ≡ reach_of l.elements l.children;
  short : l.at ≤ most_span * l.from;
  near : l.reach ≤ most_span * l.from + 2 ^ 32;
}
