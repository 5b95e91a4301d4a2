use Rattle.std.proofs.Common.{◌≡◌, ◌++◌, List, map, drop}
use Rattle.spec_graph.specs.declared.graph.Link.{Link}
use Rattle.ts_graph.specs.Ways.{AreAt}
use Rattle.ts_graph.specs.Under.{layers_of}
use Rattle.ts_crossing.specs.Leaving.{layer_with_piece}
use Rattle.ts_crossing.proofs.leaving.pieces_of.Given as goal

abbrev pub invariant-loop-link : goal.invariant-loop-link
invariant-loop-link l = (way : List Link) → AreAt l.graph.links l.links way → map layer_with_piece l.pieces.items ++ layers_of l.graph.heads (drop l.link-index way) ≡ layers_of l.graph.heads way
