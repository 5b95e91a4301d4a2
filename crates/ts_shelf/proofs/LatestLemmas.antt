-- What a journal shows, as entries are added.
use Rattle.std.proofs.Common.{Some, ◌≡◌, ◌∙◌, sym, refl, ℕ, suc, ◌≤◌, List, [], ◌∷◌, ◌++◌, All, arith}
use Rattle.ts_shelf.specs.declared.journal.Entry.{Entry}
use Rattle.ts_shelf.specs.declared.view.Knowledge.{Knowledge}
use Rattle.ts_shelf.specs.Calls.{ShowsLatest}
use Rattle.ts_shelf.specs.Passes.{IsPass, FitsOpening}
use Rattle.ts_shelf.specs.Latest.{latest_of}

-- after an entry its item is shown
pub latest_of_push : {S I : Type 0} (shown_of : I → S) (opening : S) (es : List (Entry I))
    (e : Entry I)
    → latest_of shown_of opening (es ++ e ∷ []) ≡ shown_of e.item
latest_of_push shown_of opening [] e = refl
latest_of_push shown_of opening (x ∷ xs) e = latest_of_push shown_of (shown_of x.item) xs e

-- what holds of the opening, and of what is shown of each item, holds of what is shown
pub latest_of_holds : {S I : Type 0} (P : S → Type 0) (shown_of : I → S) (opening : S)
    (es : List (Entry I)) → P opening
    → All (λ e. P (shown_of e.item)) es → P (latest_of shown_of opening es)
latest_of_holds P shown_of opening [] first each = first
latest_of_holds P shown_of opening (e ∷ es) first each =
    latest_of_holds P shown_of (shown_of e.item) es (each 0 e (omega arith))
    (λ k d lt. each (suc k) d (omega arith))

-- where no item is below the opening, what a pass was shown last is not below it, and so nothing
-- above that
pub above_latest_fits : (k : Knowledge ℕ ℕ) (latest item : ℕ)
    → IsPass (λ opening item. opening ≤ item) k → ShowsLatest (λ x. x) k latest → latest ≤ item
    → FitsOpening (λ opening item. opening ≤ item) k item
above_latest_fits k latest item p shows le opening is =
    let both : Some p.opening ≡ Some opening = sym p.opens ∙ is in
    let same : p.opening ≡ opening = cc in
    let shown = shows p.opening p.opens in
    let least = latest_of_holds (λ x. p.opening ≤ x) (λ x. x) p.opening k.seen (le_self p.opening) p.fit in
    omega arith
  where
    le_self : (n : ℕ) → n ≤ n
    le_self n = omega arith
