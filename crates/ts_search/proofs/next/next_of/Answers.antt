use Rattle.std.proofs.Common.{refl}
use Rattle.std.proofs.lemmas.Option.{slice_get_read}
use Rattle.ts_search.proofs.NextLemmas.{next_of_row, not_empty}
use Rattle.ts_search.proofs.next.next_of.Goals as goal

pub returns : goal.returns
returns c =
    next_of_row c.args.rows.now c.args.capturing c.index-rows-0.result c.in_ok-next.next
    (slice_get_read c.args.rows.now _ 0 c.index-rows-0.result refl (not_empty c.args.rows.now c.if-is_empty.ensures) c.index-rows-0.is)
    (rw c.as_slice.ensures at c.in_ok-next.ensures)
