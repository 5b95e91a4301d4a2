-- Elements of a list by their places, and the first place with a property.
use Rattle.std.proofs.Common.{◌≡◌, ◌∙◌, sym, ap, refl, ℕ, zero, suc, ◌+◌, ◌<◌, ◌≤◌, ◌⊎◌, inl, inr, ⊎_elim, Bool, true, false, IsTrue, ◌↔◌, subst, List, [], ◌∷◌, ◌++◌, length, slice_get, Some, None, arith}
use Rattle.std.specs.List.{Contains}
use Rattle.std.proofs.lemmas.Bool.{cases_lt}
use Rattle.std.proofs.lemmas.Option.{slice_get_within, slice_get-get_or, get_or_from_slice_get}
use Rattle.ts_fit.specs.Misfits.{FindsFirst}

pub cases_lt_or_eq : (m n : ℕ) → m < n + 1 → (m < n) ⊎ (m ≡ n)
cases_lt_or_eq m n h = ⊎_elim (λ lt. inl lt) (λ ge. inr (omega arith)) (cases_lt m n)

pub some_at : {X : Type 0} (xs : List X) (k : ℕ) → k < length xs → (x : X) × (slice_get xs k ≡ Some x)
some_at [] k h = absurd (omega arith)
some_at (x ∷ xs) zero h = (x, refl)
some_at (x ∷ xs) (suc k) h = some_at xs k (omega arith)

-- what stands at a place is in the list, and what is in the list stands at a place
pub there : {X : Type 0} (xs : List X) (k : ℕ) (x : X) → slice_get xs k ≡ Some x → Contains xs x
there xs k x h = (k, slice_get_within xs k x h, get_or_from_slice_get xs k x x h)

pub at_of : {X : Type 0} (xs : List X) (x : X) → (w : Contains xs x) → slice_get xs w.0 ≡ Some x
at_of xs x w = slice_get-get_or xs w.0 x w.1 ∙ ap Some w.2

-- what stands behind the first list
pub past : {X : Type 0} (xs ys : List X) (k : ℕ) → slice_get (xs ++ ys) (length xs + k) ≡ slice_get ys k
past [] ys k = let e : 0 + k ≡ k = omega arith in ap (slice_get ys) e
past (x ∷ xs) ys k = let e : length (x ∷ xs) + k ≡ suc (length xs + k) = omega arith in rw e (past xs ys k)

-- ---- the first place

-- it holds at no place before this one
abbrev pub NoneBefore : (ℕ → Type 0) → ℕ → Type 0
NoneBefore P place = (other : ℕ) → other < place → P other → ⊥

untrue : (b : Bool) (P : Type 0) → b ≡ false → IsTrue b ↔ P → P → ⊥
untrue b P wrong h p = let right : b ≡ true = h.1 p in let e : true ≡ false = sym right ∙ wrong in cc

module _ (P : ℕ → Type 0) where
  pub first_more : (place : ℕ) (b : Bool) → b ≡ false → IsTrue b ↔ P place → NoneBefore P place → NoneBefore P (place + 1)
  first_more place b wrong test before other lt p =
      ⊎_elim (λ h. before other h p) (λ e. untrue b (P place) wrong test (subst P e p)) (cases_lt_or_eq other place lt)

  pub first_found : (place : ℕ) (b : Bool) → b ≡ true → IsTrue b ↔ P place → NoneBefore P place → FindsFirst P (Some place)
  first_found place b right test before = record {
    holds = test.0 right;
    least = λ other p. ⊎_elim (λ h. absurd (before other h p)) (λ h. h) (cases_lt other place);
  }

  pub first_none : (place count : ℕ) → count ≤ place → ((other : ℕ) → P other → other < count) → NoneBefore P place → FindsFirst P None
  first_none place count past within before other p = before other (let lt = within other p in omega arith) p

-- a test of the element at a place
pub read_one : {X : Type 0} (xs : List X) (k : ℕ) (x : X) (P : X → Type 0) (b : Bool) → slice_get xs k ≡ Some x → IsTrue b ↔ P x → IsTrue b ↔ ((y : X) × (slice_get xs k ≡ Some y) × P y)
read_one xs k x P b at test = (λ t. (x, at, test.0 t), λ w. test.1 (let e : Some w.0 ≡ Some x = sym w.1 ∙ at in let same : w.0 ≡ x = cc in subst P same w.2))
