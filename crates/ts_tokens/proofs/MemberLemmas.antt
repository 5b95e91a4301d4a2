-- Members of lists that were mapped or joined.
use Rattle.std.proofs.Common.{◌≡◌, ◌∙◌, sym, ap, subst, refl, ℕ, zero, suc, ◌+◌, ◌<◌, ◌≤◌, ◌⊎◌, inl, inr, ⊎_elim, List, [], ◌∷◌, ◌++◌, map, length, get_or, slice_get, Some, arith}
use Rattle.std.specs.List.{Contains, flat_map}
use Rattle.std.proofs.lemmas.List.{length-map}
use Rattle.std.proofs.lemmas.List.Elements.{Contains-append_left, Contains-append_right, Contains-append_cases, All-contains}
use Rattle.std.proofs.lemmas.Option.{slice_get_within, slice_get-get_or, get_or_from_slice_get}

-- what stands at a place is in the list, and what is in the list stands at a place
pub there : {X : Type 0} (xs : List X) (k : ℕ) (x : X) → slice_get xs k ≡ Some x → Contains xs x
there xs k x h = (k, slice_get_within xs k x h, get_or_from_slice_get xs k x x h)

pub at_of : {X : Type 0} (xs : List X) (x : X) → (w : Contains xs x) → slice_get xs w.0 ≡ Some x
at_of xs x w = slice_get-get_or xs w.0 x w.1 ∙ ap Some w.2

pub none_in : {X : Type 0} (x : X) → Contains [] x → ⊥
none_in x w = let lt = w.1 in omega arith

pub head_in : {X : Type 0} (x : X) (xs : List X) → Contains (x ∷ xs) x
head_in x xs = there (x ∷ xs) 0 x refl

pub tail_in : {X : Type 0} (x y : X) (xs : List X) → Contains xs y → Contains (x ∷ xs) y
tail_in x y xs w = there (x ∷ xs) (suc w.0) y (at_of xs y w)

-- a member is the head or is in the tail
pub member_cases : {X : Type 0} (x y : X) (xs : List X) → Contains (x ∷ xs) y → (y ≡ x) ⊎ Contains xs y
member_cases x y xs w = by w.0 (at_of (x ∷ xs) y w)
  where
    by : (k : ℕ) → slice_get (x ∷ xs) k ≡ Some y → (y ≡ x) ⊎ Contains xs y
    by zero e = inl (let f : Some x ≡ Some y = e in cc)
    by (suc k) e = inr (there xs k y e)

module _ {X Y : Type 0} (f : X → Y) where
  pub map_in : (xs : List X) (x : X) → Contains xs x → Contains (map f xs) (f x)
  map_in [] x w = absurd (none_in x w)
  map_in (y ∷ xs) x w = ⊎_elim
      (λ e. subst (λ (z : Y). Contains (f y ∷ map f xs) z) (ap f (sym e)) (head_in (f y) (map f xs)))
      (λ v. tail_in (f y) (f x) (map f xs) (map_in xs x v))
      (member_cases y x xs w)

  pub in_map : (xs : List X) (y : Y) → Contains (map f xs) y → (x : X) × Contains xs x × (f x ≡ y)
  in_map [] y w = absurd (none_in y w)
  in_map (x ∷ xs) y w = ⊎_elim
      (λ e. (x, head_in x xs, sym e))
      (λ v. let r = in_map xs y v in (r.0, tail_in x r.0 xs r.1, r.2))
      (member_cases (f x) y (map f xs) w)

module _ {X Y : Type 0} (f : X → List Y) where
  pub in_flat_map : (xs : List X) (y : Y) → Contains (flat_map f xs) y → (x : X) × Contains xs x × Contains (f x) y
  in_flat_map [] y w = absurd (none_in y w)
  in_flat_map (x ∷ xs) y w = ⊎_elim
      (λ v. (x, head_in x xs, v))
      (λ v. let r = in_flat_map xs y v in (r.0, tail_in x r.0 xs r.1, r.2))
      (Contains-append_cases (f x) (flat_map f xs) y w)
