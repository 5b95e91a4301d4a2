use Rattle.std.proofs.Common.{◌≡◌, ◌<◌, ℕ, zero, suc, refl, List, [], ◌∷◌, length, get_or, arith}
use Rattle.ts_entries.proofs.OwnerLemmas.{marked_more}
use Rattle.ts_entries.proofs.owners.mark.Goals as goal

same : (xs : List ℕ) (i : ℕ) → i < length xs → get_or xs i 0 ≡ get_or xs i (get_or xs i 0)
same [] i lt = absurd (omega arith)
same (x ∷ xs) zero lt = refl
same (x ∷ xs) (suc i) lt = same xs i (omega arith)

pub loop-place-preserved : goal.loop-place-preserved
loop-place-preserved c =
    marked_more c.args.places.now c.args.owner c.args.owners.now c.loop-place.owners c.loop-place.place-index (get_or c.args.places.now c.loop-place.place-index 0) c.loop-place-test.true (same c.args.places.now c.loop-place.place-index c.loop-place-test.true) (c.requires c.loop-place.place-index 0 c.loop-place-test.true) c.loop-place.invariant
