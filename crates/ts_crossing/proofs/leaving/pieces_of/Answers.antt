use Rattle.std.proofs.Common.{ap, List, ◌++◌, map, get_or, arith}
use Rattle.std.proofs.lemmas.Option.{slice_get_within}
use Rattle.ts_graph.specs.Under.{layers_of}
use Rattle.ts_reductions.specs.declared.made.Piece.{Piece}
use Rattle.ts_reductions.proofs.GatherLemmas.{at_step, at_long}
use Rattle.ts_crossing.specs.Leaving.{layer_with_piece}
use Rattle.ts_crossing.proofs.LeftLemmas.{pieces_more, pieces_last}
use Rattle.ts_crossing.proofs.leaving.pieces_of.Goals as goal

pub loop-link-init : goal.loop-link-init
loop-link-init c = λ way at.
    ap (λ (ps : List Piece). map layer_with_piece ps ++ layers_of c.args.graph.now.heads way) c.in_ok-pieces.ensures.items

pub piece_of-requires : goal.piece_of-requires
piece_of-requires c =
    let w = c.requires in
    let r = at_step c.args.graph.now.links c.args.links.now w.0 c.loop-link.link-index w.1 c.loop-link-test.true in
    slice_get_within c.args.graph.now.links (get_or c.args.links.now c.loop-link.link-index 0) r.link r.at

pub loop-link-preserved : goal.loop-link-preserved
loop-link-preserved c = λ way at.
    let s = at_step c.args.graph.now.links c.args.links.now way c.loop-link.link-index at c.loop-link-test.true in
    pieces_more c.args.graph.now.heads way c.loop-link.link-index s.link c.loop-link.pieces.items c.push.new.self.items _ s.rest (c.in_ok-piece_of.ensures s.link s.at) c.in_ok-push.ensures.items (c.loop-link.invariant way at)

pub returns : goal.returns
returns c = λ way at.
    let n = at_long c.args.graph.now.links c.args.links.now way at in
    let h = c.loop-link-test.false in
    pieces_last c.args.graph.now.heads way c.loop-link.link-index c.loop-link.pieces.items (omega (arith, n, h)) (c.loop-link.invariant way at)
