use Rattle.std.proofs.Common.{◌≡◌, ◌≤◌, List, length, drop, reverse}
use Rattle.spec_graph.specs.declared.graph.Link.{Link}
use Rattle.spec_graph.specs.Links.{way_trees}
use Rattle.ts_graph.specs.Ways.{AreAt}
use Rattle.ts_reductions.proofs.gathering.trees_up.Given as goal

abbrev pub invariant-loop-left : goal.invariant-loop-left
invariant-loop-left l = record {
  few : l.left ≤ length l.numbers;
  trees : (way : List Link) → AreAt l.graph.links l.numbers way → l.nodes.items ≡ reverse (way_trees (drop l.left way));
}

abbrev pub decreases-loop-left : goal.decreases-loop-left
decreases-loop-left l = l.left
