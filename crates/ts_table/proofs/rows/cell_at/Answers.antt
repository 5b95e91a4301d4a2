use Rattle.std.proofs.Common.{subst, List, arith}
use Rattle.std.specs.List.{Contains}
use Rattle.std.proofs.lemmas.Option.{slice_get_within}
use Rattle.std.proofs.lemmas.Result.{IfOk-weaker}
use Rattle.ts_items.specs.declared.part.Part.{Part}
use Rattle.ts_table.proofs.RowLemmas.{part_lines, within_gotos, cell_from}
use Rattle.ts_table.proofs.rows.cell_at.Goals as goal

pub index-requires : goal.index-requires
index-requires c = let lt = within_gotos c.args.grammar.now c.args.marks.now c.args.items.now c.args.set.now c.args.token c.from.result c.requires.source c.requires.ready c.requires.token c.from.ensures in omega (arith, lt, c.args.set.now.gotos.ok.0)

pub reductions-requires : goal.reductions-requires
reductions-requires c q h =
    let r = c.requires.ready in
    part_lines c.args.grammar.now c.args.marks.now c.args.items.now c.args.set.now.at r.state c.requires.source r.at q ((r.complete q).0 (subst (λ (l : List Part). Contains l q) c.as_slice-complete.ensures.value h)).0

pub rivals-requires-clause-at : goal.rivals-requires-clause-at
rivals-requires-clause-at c = let r = c.requires.ready in slice_get_within c.args.items.now.states.items c.args.set.now.at r.state r.at

pub returns : goal.returns
returns c = IfOk-weaker c.resolve_cell.result _ _ (λ cell h read reach.
    cell_from c.args.grammar.now c.args.marks.now c.args.items.now c.args.set.now read c.args.token c.from.result c.index.result.now c.state_of-target.result c.as_slice-complete.result.now c.in_ok-found.found.items c.as_slice-reduced.result.now c.in_ok-shifts.shifts.items cell c.requires.source c.requires.ready c.requires.token reach
    c.from.ensures c.index.ensures (within_gotos c.args.grammar.now c.args.marks.now c.args.items.now c.args.set.now c.args.token c.from.result c.requires.source c.requires.ready c.requires.token c.from.ensures) c.state_of-target.ensures c.as_slice-complete.ensures.value c.as_slice-reduced.ensures.value
    (c.in_ok-found.ensures c.args.grammar.now c.requires.source.marks)
    (c.in_ok-shifts.ensures c.args.grammar.now c.requires.ready.state c.requires.source c.requires.ready.at) h)
    c.resolve_cell.ensures
