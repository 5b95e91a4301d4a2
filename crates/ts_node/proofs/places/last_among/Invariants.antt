use Rattle.std.proofs.Common.{◌≡◌, ◌+◌, ◌-◌, ◌*◌, ◌<◌, ◌≤◌, drop, take, length}
use Rattle.spec_trees.specs.Made.{children_count, bytes_before, most_span}
use Rattle.ts_node.specs.Held.{stretch}
use Rattle.ts_node.proofs.places.last_among.Given as goal

abbrev pub invariant-loop-k : goal.invariant-loop-k
invariant-loop-k l = record {
  from : l.from ≡ children_count (take l.k l.elements);
  own : l.from + children_count (drop l.k l.elements) ≡ length l.children;
  at : l.at ≡ bytes_before l.k (stretch l.elements l.children);
  short : l.at ≤ most_span * l.from;
  before : 0 < l.k → bytes_before (l.k - 1) (stretch l.elements l.children) ≤ l.offset;
}
