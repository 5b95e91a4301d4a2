use Rattle.std.proofs.Common.{refl, arith}
use Rattle.std.proofs.lemmas.Option.{slice_get_read}
use Rattle.ts_search.proofs.RunLemmas.{no_truth, taken_iff, none_past_row, none_past_table}
use Rattle.ts_search.proofs.places.is_taken.Goals as goal
use Rattle.ts_search.proofs.places.is_taken.Goals.{else-k-table-via-then-k-table+else-at-len, else-k-table-via-else-k-table}

pub returns-then-at-len : goal.returns-then-at-len
returns-then-at-len c =
    let rows = c.index-table-k-then-at-len.result in
    taken_iff c.args.table.now c.args.k c.args.at c.args.place rows c.get.result.now (slice_get_read c.args.table.now _ c.args.k rows refl c.if-k-table.true c.index-table-k-then-at-len.is) c.get.ensures
    c.is_in_row.result (rw c.as_slice.ensures at c.is_in_row.ensures)

pub returns : goal.returns
returns c = elim c.else-k-table.branch [
  | else-k-table-via-then-k-table+else-at-len w ↦ (
    (λ h. absurd (no_truth h)),
    (λ h. absurd (none_past_row c.args.table.now c.args.k c.args.at c.args.place w.index-table-k.result
        (slice_get_read c.args.table.now _ c.args.k w.index-table-k.result refl w.if-k-table.true w.index-table-k.is) (omega (arith, w.if-at-len.false, w.len.ensures)) h)),
  )
  | else-k-table-via-else-k-table w ↦ ((λ h. absurd (no_truth h)), (λ h. absurd (none_past_table c.args.table.now c.args.k c.args.at c.args.place (omega (arith, w.if-k-table.false)) h)))
]
