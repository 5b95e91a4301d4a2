use Rattle.std.proofs.Common.{◌≡◌, ◌≤◌, List, drop, max}
use Rattle.spec_trees.specs.Trees.{maximum}
use Rattle.spec_trees.specs.Made.{most_depth}
use Rattle.spec_graph.specs.declared.graph.Link.{Link}
use Rattle.spec_graph.specs.Links.{depths_of}
use Rattle.ts_graph.specs.Ways.{AreAt}
use Rattle.ts_reductions.proofs.gathering.deepest.Given as goal

abbrev pub invariant-loop-number : goal.invariant-loop-number
invariant-loop-number l = record {
  depth_is : (way : List Link) → AreAt l.graph.links l.numbers way → max l.depth (maximum (depths_of (drop l.number-index way))) ≡ maximum (depths_of way);
  shallow : l.depth ≤ most_depth;
}
