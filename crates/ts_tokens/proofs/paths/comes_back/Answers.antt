use Rattle.std.proofs.Common.{subst, ℕ, ◌<◌, List, IsTrue, arith}
use Rattle.std.specs.List.{Contains}
use Rattle.ts_automata.specs.Sets.{Adds}
use Rattle.ts_tokens.specs.Paths.{graph_of, Path}
use Rattle.ts_tokens.proofs.BackLemmas.{reaching_begins, reaching_more, node_there, reached, look_up, rows_length}
use Rattle.ts_tokens.proofs.BoolLemmas.{both_ways}
use Rattle.ts_tokens.proofs.PathLemmas.{row_at}
use Rattle.ts_tokens.proofs.paths.comes_back.Goals as goal

pub loop-next-init : goal.loop-next-init
loop-next-init c =
    let g = graph_of c.args.graph.now in
    let row = c.as_slice.result.now in
    let at = row_at c.args.graph.now c.args.node c.index-graph-node.result row c.requires.node c.index-graph-node.is c.as_slice.ensures.value in
    reaching_begins g c.args.node row c.add_row.new.found.keys at (subst (λ (xs : List ℕ). Adds (Contains row) xs c.add_row.new.found.keys) c.new-found.ensures.empty c.in_ok-add_row.ensures)

pub bounds-graph-from : goal.bounds-graph-from
bounds-graph-from c =
    let there = node_there (graph_of c.args.graph.now) c.args.node c.loop-next.found.keys c.loop-next.next c.node_at-from.result c.requires.closed c.node_at-from.ensures c.loop-next.invariant in
    subst (λ (n : ℕ). c.node_at-from.result < n) (rows_length c.args.graph.now) there

pub offset_bounds-graph-from : goal.offset_bounds-graph-from
offset_bounds-graph-from c =
    let there = node_there (graph_of c.args.graph.now) c.args.node c.loop-next.found.keys c.loop-next.next c.node_at-from.result c.requires.closed c.node_at-from.ensures c.loop-next.invariant in
    let within = subst (λ (n : ℕ). c.node_at-from.result < n) (rows_length c.args.graph.now) there in
    omega arith

pub loop-next-preserved : goal.loop-next-preserved
loop-next-preserved c =
    let g = graph_of c.args.graph.now in
    let row = c.as_slice-in-loop-next.result.now in
    let node = c.node_at-from.result in
    let there = node_there g c.args.node c.loop-next.found.keys c.loop-next.next node c.requires.closed c.node_at-from.ensures c.loop-next.invariant in
    let at = row_at c.args.graph.now node c.index-graph-from.result row there c.index-graph-from.is c.as_slice-in-loop-next.ensures.value in
    reaching_more g c.args.node c.loop-next.found.keys c.add_row-in-loop-next.new.found.keys row c.loop-next.next node (omega (arith, c.len.ensures.len)) c.node_at-from.ensures at c.in_ok-add_row-2.ensures c.loop-next.invariant

pub returns : goal.returns
returns c =
    let g = graph_of c.args.graph.now in
    let node = c.args.node in
    let found = c.loop-next.found.keys in
    both_ways (IsTrue c.contains.result) (Contains found node) (Path g node node) (look_up found node c.contains.result c.contains.ensures)
    (reached g node found c.loop-next.next (omega (arith, c.len.ensures.len)) c.loop-next.invariant node)
