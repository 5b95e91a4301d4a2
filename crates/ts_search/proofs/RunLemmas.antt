-- What an item takes, and its runs.
use Rattle.std.proofs.Common.{◌≡◌, sym, refl, subst, ℕ, ◌+◌, ◌≤◌, ⊎_elim, List, [], ◌∷◌, length, slice_get, Some, arith, ◌↔◌, IsTrue, Bool, true, false}
use Rattle.std.specs.List.{Contains}
use Rattle.std.proofs.lemmas.Option.{slice_get_within}
use Rattle.spec_matches.specs.declared.found.Capture.{Capture}
use Rattle.spec_matches.specs.Embedding.{Covers, offset}
use Rattle.ts_search.specs.Table.{Takes}
use Rattle.spec_matches.specs.declared.placing.Slot.{Slot}
use Rattle.ts_search.proofs.PlaceLemmas.{cases_lt_or_eq, there, same_at, none_in_nil}

pub no_truth : IsTrue false → ⊥
no_truth h = cc

abbrev Row : Type 0
Row = List (List (List Capture))

-- what a row takes at a place
abbrev In : Row → ℕ → List Capture → Type 0
In row p c = (ways : List (List Capture)) × (slice_get row p ≡ Some ways) × Contains ways c

pub in_rows : (table : List (List Row)) (k o p : ℕ) (rows : List Row) (row : Row) → slice_get table k ≡ Some rows → slice_get rows o ≡ Some row → (c : List Capture) → Takes table k o p c ↔ In row p c
in_rows table k o p rows row are is c = (to, (λ h. record { rows = rows; are_rows = are; row = row; is_row = is; ways = h.0; are_ways = h.1; one = h.2 }))
  where
    to : Takes table k o p c → In row p c
    to t =
        let r : t.rows ≡ rows = same_at table k t.rows rows t.are_rows are in
        let w : t.row ≡ row = same_at rows o t.row row (subst (λ (l : List Row). slice_get l o ≡ Some t.row) r t.is_row) is in
        (t.ways, subst (λ (l : Row). slice_get l p ≡ Some t.ways) w t.are_ways, t.one)

pub in_row_iff : (row : Row) (p : ℕ) (ways : List (List Capture)) → slice_get row p ≡ Some ways → (b : Bool) → (IsTrue b ↔ (ways ≡ []))
    → IsTrue (mathlib.Core.Bool.not b) ↔ ((c : List Capture) × (ws : List (List Capture)) × (slice_get row p ≡ Some ws) × Contains ws c)
in_row_iff row p [] are true e = ((λ h. absurd (no_truth h)), (λ h. absurd (none_in_nil h.0 (subst (λ (l : List (List Capture)). Contains l h.0) (same_at row p h.1 [] h.2 are) h.3))))
in_row_iff row p [] are false e = ((λ h. absurd (no_truth (e.1 refl))), (λ h. refl))
in_row_iff row p (w ∷ ws) are true e = let h : (w ∷ ws) ≡ [] = e.0 refl in cc
in_row_iff row p (w ∷ ws) are false e = ((λ h. (w, w ∷ ws, are, there (w ∷ ws) 0 w refl)), (λ h. refl))

pub past_row : (row : Row) (p : ℕ) → length row ≤ p → ((c : List Capture) × (ws : List (List Capture)) × (slice_get row p ≡ Some ws) × Contains ws c) → ⊥
past_row row p past h = let w = slice_get_within row p h.1 h.2 in omega arith

pub taken_iff : (table : List (List Row)) (k o p : ℕ) (rows : List Row) (row : Row) → slice_get table k ≡ Some rows → slice_get rows o ≡ Some row
    → (b : Bool) → (IsTrue b ↔ ((c : List Capture) × (ws : List (List Capture)) × (slice_get row p ≡ Some ws) × Contains ws c)) → IsTrue b ↔ ((c : List Capture) × Takes table k o p c)
taken_iff table k o p rows row are is b e = ((λ h. let w = e.0 h in (w.0, (in_rows table k o p rows row are is w.0).1 (w.1, w.2, w.3))), (λ h. e.1 (let w = (in_rows table k o p rows row are is h.0).0 h.1 in (h.0, w.0, w.1, w.2))))

pub none_past_row : (table : List (List Row)) (k o p : ℕ) (rows : List Row) → slice_get table k ≡ Some rows → length rows ≤ o → ((c : List Capture) × Takes table k o p c) → ⊥
none_past_row table k o p rows are past (c, t) =
    let r : t.rows ≡ rows = same_at table k t.rows rows t.are_rows are in
    let w = slice_get_within rows o t.row (subst (λ (l : List Row). slice_get l o ≡ Some t.row) r t.is_row) in
    omega arith

pub none_past_table : (table : List (List Row)) (k o p : ℕ) → length table ≤ k → ((c : List Capture) × Takes table k o p c) → ⊥
none_past_table table k o p past (c, t) = let w = slice_get_within table k t.rows t.are_rows in omega arith

pub covers_more : (takes : ℕ → ℕ → ℕ → List Capture → Type 0) (k : ℕ) (i : Slot) (first past : ℕ) → Covers takes k i (record { first = first; past = past }) → ((c : List Capture) × takes k (offset i first past) past c)
    → Covers takes k i (record { first = first; past = past + 1 })
covers_more takes k i first past before one p from below =
    ⊎_elim (λ lt. before p from lt) (λ e. (one.0, subst (λ (q : ℕ). takes k (offset i first q) q one.0) (sym e) one.1)) (cases_lt_or_eq p past below)

pub not_false : (b : Bool) → mathlib.Core.Bool.not b ≡ false → b ≡ true
not_false true e = refl
not_false false e = absurd (no_truth (sym e))

pub not_true : (b : Bool) → mathlib.Core.Bool.not b ≡ true → b ≡ false
not_true true e = absurd (no_truth e)
not_true false e = refl
