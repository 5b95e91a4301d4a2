use Rattle.std.proofs.Common.{refl, arith}
use Rattle.std.proofs.lemmas.Option.{slice_get_read}
use Rattle.ts_search.proofs.NextLemmas.{none_in_more}
use Rattle.ts_search.proofs.next.next_place.Goals as goal

pub loop-place-preserved : goal.loop-place-preserved
loop-place-preserved c =
    none_in_more c.args.row.now c.args.capturing c.args.from c.loop-place.place c.index-row-place.result
    (slice_get_read c.args.row.now _ c.loop-place.place c.index-row-place.result refl c.loop-place-test.true c.index-row-place.is)
    ((rw c.as_slice.ensures at c.counts.ensures) c.if-counts.false) c.loop-place.invariant

pub returns-then-from-row : goal.returns-then-from-row
returns-then-from-row c = (omega (arith, c.if-from-row.true), λ j low below t. c.loop-place.invariant j low (omega (arith, below, c.loop-place-test.false)) t)
