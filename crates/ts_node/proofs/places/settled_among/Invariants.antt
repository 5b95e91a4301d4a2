use Rattle.std.proofs.Common.{◌≡◌, ◌+◌, ◌-◌, ◌≤◌, drop}
use Rattle.spec_trees.specs.Made.{settled_first}
use Rattle.ts_node.proofs.places.settled_among.Given as goal

abbrev pub invariant-loop-i : goal.invariant-loop-i
invariant-loop-i l = record {
  past : l.k ≤ l.i;
  same : (l.i - l.k) + settled_first (drop l.i l.elements) ≡ settled_first (drop l.k l.elements);
}
