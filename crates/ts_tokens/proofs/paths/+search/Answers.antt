use Rattle.std.proofs.Common.{subst, ℕ, get_or, arith}
use Rattle.std.proofs.lemmas.Option.{slice_get-get_or, get_or_from_slice_get}
use Rattle.ts_tokens.specs.Paths.{IsRanked, graph_of}
use Rattle.ts_tokens.proofs.PathLemmas.{going_begins, going_more, lead_step, room_step, node_goes, node_within, row_at, here, visited_goes, visited_falls, visited_done}
use Rattle.ts_tokens.proofs.paths.+search.Goals as goal

pub visit-loop-to-init : goal.visit-loop-to-init
visit-loop-to-init t c = going_begins (graph_of c.args.graph.now) c.args.marks.now c.args.node c.args.next c.as_slice-to-items.result.now c.requires.unseen c.requires.falls

pub visit-come_to-requires : goal.visit-come_to-requires
visit-come_to-requires t c =
    let g = graph_of c.args.graph.now in
    let row = c.as_slice-to-items.result.now in
    let at = row_at c.args.graph.now c.args.node c.index-graph-node.result row (here c.args.graph.now c.args.marks.now c.args.node c.requires.falls.one_each c.requires.unseen) c.index-graph-node.is c.as_slice-to-items.ensures.value in
    let goes = node_goes g c.args.node (get_or row c.loop-to.to-index 0) c.loop-to.to-index row at (slice_get-get_or row c.loop-to.to-index 0 c.loop-to-test.true) in
    let room = room_step g c.args.marks.now c.loop-to.marks c.args.node c.args.next c.loop-to.next row c.loop-to.to-index c.requires.unseen c.loop-to.invariant in
    let there = c.requires.closed c.args.node (get_or row c.loop-to.to-index 0) goes in
    (omega (arith, c.decreases), (c.requires.closed, (omega (arith, c.loop-to.invariant.falls.one_each), (lead_step g c.args.marks.now c.loop-to.marks c.args.node c.args.next c.loop-to.next (get_or row c.loop-to.to-index 0) row c.loop-to.to-index c.requires.unseen c.requires.lead c.loop-to.invariant goes, (c.loop-to.invariant.falls, omega (arith, c.requires.room))))))

pub visit-loop-to-preserved : goal.visit-loop-to-preserved
visit-loop-to-preserved t c =
    let g = graph_of c.args.graph.now in
    let row = c.as_slice-to-items.result.now in
    going_more g c.args.marks.now c.loop-to.marks c.come_to.new.marks c.args.node c.args.next c.loop-to.next c.in_ok-next.next row c.loop-to.to-index c.loop-to-test.true
    c.loop-to.invariant c.in_ok-next.ensures.goes c.in_ok-next.ensures.falls
    (λ to at. subst (λ (n : ℕ). IsRanked c.come_to.new.marks n) (get_or_from_slice_get row c.loop-to.to-index to 0 at) c.in_ok-next.ensures.done)

pub visit-bounds-marks-node-2 : goal.visit-bounds-marks-node-2
visit-bounds-marks-node-2 t c = node_within (graph_of c.args.graph.now) c.args.marks.now c.loop-to.marks c.args.node c.args.next c.loop-to.next c.as_slice-to-items.result.now c.loop-to.to-index c.requires.unseen c.loop-to.invariant

pub visit-offset_bounds-marks-node-2 : goal.visit-offset_bounds-marks-node-2
visit-offset_bounds-marks-node-2 t c =
    let within = node_within (graph_of c.args.graph.now) c.args.marks.now c.loop-to.marks c.args.node c.args.next c.loop-to.next c.as_slice-to-items.result.now c.loop-to.to-index c.requires.unseen c.loop-to.invariant in
    omega arith

pub visit-returns-clause-goes : goal.visit-returns-clause-goes
visit-returns-clause-goes t c = visited_goes (graph_of c.args.graph.now) c.args.marks.now c.loop-to.marks c.args.node c.args.next c.loop-to.next c.as_slice-to-items.result.now c.loop-to.to-index c.requires.unseen c.loop-to.invariant

pub visit-returns-clause-falls : goal.visit-returns-clause-falls
visit-returns-clause-falls t c =
    let at = row_at c.args.graph.now c.args.node c.index-graph-node.result c.as_slice-to-items.result.now (here c.args.graph.now c.args.marks.now c.args.node c.requires.falls.one_each c.requires.unseen) c.index-graph-node.is c.as_slice-to-items.ensures.value in
    visited_falls (graph_of c.args.graph.now) c.args.marks.now c.loop-to.marks c.args.node c.args.next c.loop-to.next c.as_slice-to-items.result.now c.loop-to.to-index at c.loop-to-test.false c.requires.unseen c.loop-to.invariant

pub visit-returns-clause-done : goal.visit-returns-clause-done
visit-returns-clause-done t c = visited_done (graph_of c.args.graph.now) c.args.marks.now c.loop-to.marks c.args.node c.args.next c.loop-to.next c.as_slice-to-items.result.now c.loop-to.to-index c.requires.unseen c.loop-to.invariant
