-- Elements of a list by their places.
use Rattle.std.proofs.Common.{◌≡◌, refl, ap, ℕ, zero, suc, ◌<◌, ◌⊎◌, inl, inr, List, [], ◌∷◌, ◌++◌, length, set, slice_get, Some, arith}

pub set_here : {X : Type 0} (xs : List X) (i : ℕ) (v : X) → i < length xs → slice_get (set xs i v) i ≡ Some v
set_here [] i v below = absurd (omega arith)
set_here (x ∷ xs) zero v below = refl
set_here (x ∷ xs) (suc i) v below = set_here xs i v (omega arith)

pub set_there : {X : Type 0} (xs : List X) (i k : ℕ) (v : X) → (k ≡ i → ⊥) → slice_get (set xs i v) k ≡ slice_get xs k
set_there [] i k v other = refl
set_there (x ∷ xs) zero zero v other = absurd (other refl)
set_there (x ∷ xs) zero (suc k) v other = refl
set_there (x ∷ xs) (suc i) zero v other = refl
set_there (x ∷ xs) (suc i) (suc k) v other = set_there xs i k v (λ e. other (ap (λ (n : ℕ). suc n) e))

-- an element of the first part of a list
pub in_prefix : {X : Type 0} (xs ys : List X) (k : ℕ) → k < length xs → slice_get (xs ++ ys) k ≡ slice_get xs k
in_prefix [] ys k below = absurd (omega arith)
in_prefix (x ∷ xs) ys zero below = refl
in_prefix (x ∷ xs) ys (suc k) below = in_prefix xs ys k (omega arith)

-- the element that was pushed
pub at_end : {X : Type 0} (xs : List X) (y : X) → slice_get (xs ++ y ∷ []) (length xs) ≡ Some y
at_end [] y = refl
at_end (x ∷ xs) y = at_end xs y

-- what stands at a place after a push: what was there, or what was pushed
pub push_cases : {X : Type 0} (xs : List X) (y : X) (k : ℕ) (z : X) → slice_get (xs ++ y ∷ []) k ≡ Some z → ((k < length xs) × (slice_get xs k ≡ Some z)) ⊎ ((k ≡ length xs) × (y ≡ z))
push_cases [] y zero z is = inr (refl, (let e : Some y ≡ Some z = is in cc))
push_cases [] y (suc k) z is = cc
push_cases (x ∷ xs) y zero z is = inl (omega arith, is)
push_cases (x ∷ xs) y (suc k) z is = by (push_cases xs y k z is)
  where
    by : ((k < length xs) × (slice_get xs k ≡ Some z)) ⊎ ((k ≡ length xs) × (y ≡ z)) → ((suc k < length (x ∷ xs)) × (slice_get xs k ≡ Some z)) ⊎ ((suc k ≡ length (x ∷ xs)) × (y ≡ z))
    by (inl w) = inl (let below = w.0 in omega arith, w.1)
    by (inr w) = inr (let e = w.0 in omega arith, w.1)
