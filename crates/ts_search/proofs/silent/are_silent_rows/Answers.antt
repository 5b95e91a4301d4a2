use Rattle.ts_search.specs.Table.{IsSilentRow}
use Rattle.ts_search.proofs.SilentLemmas.{each_all, each_more, each_none}
use Rattle.ts_search.proofs.silent.are_silent_rows.Goals as goal

pub loop-row-init : goal.loop-row-init
loop-row-init c = each_none IsSilentRow

pub loop-row-preserved : goal.loop-row-preserved
loop-row-preserved c =
    each_more IsSilentRow c.args.rows.now c.loop-row.row-index c.row-item.result c.loop-row-test.true c.row-item.is c.loop-row.invariant ((rw c.as_slice.ensures at c.is_silent_row.ensures) c.if-not-is_silent_row.false)

pub returns : goal.returns
returns c = λ h. each_all IsSilentRow c.args.rows.now c.loop-row.row-index c.loop-row-test.false c.loop-row.invariant
