use Rattle.std.proofs.Common.{◌≡◌, ◌++◌, List, drop}
use Rattle.spec_graph.specs.declared.graph.Link.{Link}
use Rattle.spec_graph.specs.Links.{way_trees}
use Rattle.ts_graph.specs.Ways.{AreAt}
use Rattle.ts_places.proofs.roots.trees_up.Given as goal

abbrev pub invariant-loop-number : goal.invariant-loop-number
invariant-loop-number l = (way : List Link) → AreAt l.graph.links l.numbers way → l.nodes.items ++ way_trees (drop l.number-index way) ≡ way_trees way
