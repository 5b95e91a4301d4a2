use Rattle.std.proofs.Common.{◌≡◌, ◌+◌, drop, length}
use Rattle.spec_trees.specs.Made.{children_count}
use Rattle.ts_node.specs.Places.{settled_by}
use Rattle.ts_node.proofs.settled.settled_among.Given as goal

abbrev pub invariant-loop-k : goal.invariant-loop-k
invariant-loop-k l = record {
  own : l.from + children_count (drop l.k l.elements) ≡ length l.children;
  same : l.k + settled_by l.left (drop l.k l.elements) (drop l.from l.children) ≡ settled_by l.room l.elements l.children;
}
