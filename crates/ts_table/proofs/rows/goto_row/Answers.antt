use Rattle.std.proofs.Common.{refl, arith, get_or}
use Rattle.ts_items.specs.declared.part.Goto.{Goto}
use Rattle.std.proofs.lemmas.Option.{slice_get-get_or}
use Rattle.std.proofs.lemmas.List.Elements.{Contains-get_or}
use Rattle.ts_table.proofs.RowLemmas.{gotos_more}
use Rattle.ts_table.proofs.rows.goto_row.Goals as goal

pub index_mut-requires : goal.index_mut-requires
index_mut-requires c =
    let e = c.from.ensures in
    let d : Goto = record { symbol = 0; state = 0 } in
    let lt = c.requires.inside (get_or c.args.gotos.now c.loop-goto.goto-index d) (Contains-get_or c.args.gotos.now c.loop-goto.goto-index d c.loop-goto-test.true) in
    let size = c.loop-goto.invariant.size in
    omega (arith, e, lt, size)

pub loop-goto-preserved : goal.loop-goto-preserved
loop-goto-preserved c = gotos_more c.args.count c.loop-goto.goto-index c.from.result c.args.gotos.now _ c.loop-goto.row.items _ c.loop-goto-test.true (slice_get-get_or c.args.gotos.now c.loop-goto.goto-index _ c.loop-goto-test.true) c.from.ensures
    (c.requires.inside _ (Contains-get_or c.args.gotos.now c.loop-goto.goto-index _ c.loop-goto-test.true)) c.requires.rise refl c.loop-goto.invariant
