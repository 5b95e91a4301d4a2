-- Small lemmas on members of lists.
use Rattle.std.proofs.Common.{◌≡◌, ◌∙◌, sym, ap, refl, subst, ℕ, zero, suc, ◌+◌, ◌<◌, ◌≤◌, List, [], ◌∷◌, ◌++◌, append_assoc, length, take, get_or, slice_get, Some, arith}
use Rattle.std.specs.List.{Contains}
use Rattle.std.proofs.lemmas.List.{take_more, take_all}
use Rattle.std.proofs.lemmas.List.Elements.{Contains-get_or}
use Rattle.std.proofs.lemmas.Option.{slice_get-get_or, slice_get_within, get_or_from_slice_get}

module _ {X : Type 0} where
  pub contained_at : (xs : List X) (k : ℕ) (x : X) → slice_get xs k ≡ Some x → Contains xs x
  contained_at xs k x e = (k, slice_get_within xs k x e, get_or_from_slice_get xs k x x e)

  pub at_contained : (xs : List X) (x : X) → Contains xs x → (k : ℕ) × (slice_get xs k ≡ Some x)
  at_contained xs x h = (h.0, slice_get-get_or xs h.0 x h.1 ∙ ap (λ (y : X). Some y) h.2)

  pub read_at : (xs : List X) (k : ℕ) → k < length xs → (x : X) × (slice_get xs k ≡ Some x)
  read_at [] k low = absurd (omega (arith, low))
  read_at (x ∷ xs) zero low = (x, refl)
  read_at (x ∷ xs) (suc k) low = read_at xs k (omega (arith, low))

  pub none_contained : (x : X) → Contains [] x → ⊥
  none_contained x h = let low = h.1 in omega (arith, low)

-- an element of a list that was read at a place
pub item_in : {X : Type 0} (xs : List X) (i : ℕ) (x : X) → i < length xs → x ≡ get_or xs i x → Contains xs x
item_in {X = X} xs i x low is = subst (λ (y : X). Contains xs y) (sym is) (Contains-get_or xs i x low)

-- an element that is there does not rest on the default
pub read_any : {X : Type 0} (xs : List X) (i : ℕ) (d e : X) → i < length xs → get_or xs i d ≡ get_or xs i e
read_any [] i d e low = absurd (omega (arith, low))
read_any (x ∷ xs) zero d e low = refl
read_any (x ∷ xs) (suc i) d e low = read_any xs i d e (let h : suc i < suc (length xs) = low in omega (arith, h))

pub one_taken : {X : Type 0} (all : List X) (i : ℕ) (x : X) → i < length all → x ≡ get_or all i x → take i all ++ x ∷ [] ≡ take (i + 1) all
one_taken {X = X} all i x low is = ap (λ (y : X). take i all ++ y ∷ []) is ∙ sym (take_more all i x low)

-- the same behind other elements
pub taken_more : {X : Type 0} (before all : List X) (i : ℕ) (x : X) → i < length all → x ≡ get_or all i x → (before ++ take i all) ++ x ∷ [] ≡ before ++ take (i + 1) all
taken_more {X = X} before all i x low is = append_assoc before (take i all) (x ∷ []) ∙ ap (λ (l : List X). before ++ l) (one_taken all i x low is)

pub taken_all : {X : Type 0} (before all : List X) (i : ℕ) → length all ≤ i → before ++ take i all ≡ before ++ all
taken_all {X = X} before all i many = ap (λ (l : List X). before ++ l) (take_all i all many)

-- the only element of a list
pub first_of_one : {X : Type 0} (x y : X) → Contains (x ∷ []) y → x ≡ y
first_of_one x y h = by h.0 h.1 h.2
  where
    by : (k : ℕ) → k < length (x ∷ []) → get_or (x ∷ []) k y ≡ y → x ≡ y
    by zero low e = e
    by (suc k) low e = absurd (let h : suc k < 1 = low in omega (arith, h))

-- an element of a list, by a copy of the list
pub item_at : {X : Type 0} (xs ys : List X) → ys ≡ xs → (i : ℕ) (d : X) → i < length ys → slice_get xs i ≡ Some (get_or ys i d)
item_at {X = X} xs ys same i d low = subst (λ (l : List X). slice_get l i ≡ Some (get_or ys i d)) same (slice_get-get_or ys i d low)
