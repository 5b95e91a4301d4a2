use Rattle.std.proofs.Common.{ℕ, ◌<◌, ◌≤◌, List, sym, subst}
use Rattle.std.specs.Global.{Vec}
use Rattle.ts_transcript.specs.Columns.{AreColumns, HasPieces}
use Rattle.ts_transcript.proofs.BatchLemmas.{adds_none, adds_piece, adds_all}
use Rattle.ts_transcript.proofs.threads.added.Goals as goal

pub loop-place-init : goal.loop-place-init
loop-place-init c = λ g lines count are. adds_none g lines c.args.bytes.items _ c.in_ok-reserve_exact.ensures.items

pub piece_at-requires : goal.piece_at-requires
piece_at-requires c =
    subst (λ (columns : List (Vec (Vec ℕ))). HasPieces columns c.args.count) (sym c.as_slice-columns.ensures.value) c.requires c.loop-place.place c.loop-place-test.true

pub loop-place-preserved : goal.loop-place-preserved
loop-place-preserved c = λ g lines count are.
    let here : AreColumns g lines c.as_slice-columns.result.now =
    subst (λ (columns : List (Vec (Vec ℕ))). AreColumns g lines columns) (sym c.as_slice-columns.ensures.value) are in
    let within = subst (λ (n : ℕ). c.loop-place.place < n) (sym count) c.loop-place-test.true in
    adds_piece g lines c.args.bytes.items c.as_slice-columns.result.now c.loop-place.place c.loop-place.out.items c.piece_at.result.now _ here within c.piece_at.ensures c.in_ok-extend_from_slice.ensures.items
    (c.loop-place.invariant g lines count are)

pub returns : goal.returns
returns c = λ g lines count are.
    let past = subst (λ (n : ℕ). n ≤ c.loop-place.place) (sym count) c.loop-place-test.false in
    adds_all g lines c.args.bytes.items c.loop-place.place c.loop-place.out.items past (c.loop-place.invariant g lines count are)
