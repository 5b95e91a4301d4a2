use Rattle.std.proofs.Common.{refl, arith}
use Rattle.std.proofs.lemmas.Option.{slice_get_read}
use Rattle.ts_search.proofs.RunLemmas.{no_truth, in_row_iff, past_row}
use Rattle.ts_search.proofs.places.is_in_row.Goals as goal

pub returns-then-place-row : goal.returns-then-place-row
returns-then-place-row c = ((λ h. absurd (no_truth h)), (λ h. absurd (past_row c.args.row.now c.args.place c.if-place-row.true h)))

pub returns : goal.returns
returns c = in_row_iff c.args.row.now c.args.place c.index-row-place.result (slice_get_read c.args.row.now _ c.args.place c.index-row-place.result refl (omega (arith, c.if-place-row.false)) c.index-row-place.is) c.is_empty.result c.is_empty.ensures
