use Rattle.std.proofs.Common.{◌≡◌, ◌≤◌, List, length, drop, map, reverse}
use Rattle.spec_graph.specs.declared.graph.Link.{Link}
use Rattle.ts_graph.specs.Ways.{AreAt}
use Rattle.ts_reductions.proofs.gathering.heads_up.Given as goal

abbrev pub invariant-loop-left : goal.invariant-loop-left
invariant-loop-left l = record {
  few : l.left ≤ length l.numbers;
  heads : (way : List Link) → AreAt l.graph.links l.numbers way → l.heads.items ≡ reverse (map (λ (x : Link). x.below) (drop l.left way));
}

abbrev pub decreases-loop-left : goal.decreases-loop-left
decreases-loop-left l = l.left
