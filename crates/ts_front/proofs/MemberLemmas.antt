-- Members of lists.
use Rattle.std.proofs.Common.{◌≡◌, ◌∙◌, sym, ap, subst, refl, ℕ, zero, suc, ◌⊎◌, inl, inr, ⊎_elim, List, [], ◌∷◌, ◌++◌, map, slice_get, Some, arith}
use Rattle.std.specs.List.{Contains, flat_map, AllByRecursion}
use Rattle.std.proofs.lemmas.List.Elements.{Contains-append_left, Contains-append_right, Contains-append_cases}
use Rattle.std.proofs.lemmas.Option.{slice_get_within, slice_get-get_or, get_or_from_slice_get}
use Rattle.ts_rules.specs.FirstSights.{Picks, end, taken, left}

-- what stands at a place is in the list, and what is in the list stands at a place
pub there : {X : Type 0} (xs : List X) (k : ℕ) (x : X) → slice_get xs k ≡ Some x → Contains xs x
there xs k x h = (k, slice_get_within xs k x h, get_or_from_slice_get xs k x x h)

pub at_of : {X : Type 0} (xs : List X) (x : X) → (w : Contains xs x) → slice_get xs w.0 ≡ Some x
at_of xs x w = slice_get-get_or xs w.0 x w.1 ∙ ap Some w.2

pub none_in : {X : Type 0} (x : X) → Contains [] x → ⊥
none_in x w = let lt = w.1 in omega arith

pub head_in : {X : Type 0} (x : X) (xs : List X) → Contains (x ∷ xs) x
head_in x xs = there (x ∷ xs) 0 x refl

pub tail_in : {X : Type 0} (x y : X) (xs : List X) → Contains xs y → Contains (x ∷ xs) y
tail_in x y xs w = there (x ∷ xs) (suc w.0) y (at_of xs y w)

-- a member is the head or is in the tail
pub member_cases : {X : Type 0} (x y : X) (xs : List X) → Contains (x ∷ xs) y → (y ≡ x) ⊎ Contains xs y
member_cases x y xs w = by w.0 (at_of (x ∷ xs) y w)
  where
    by : (k : ℕ) → slice_get (x ∷ xs) k ≡ Some y → (y ≡ x) ⊎ Contains xs y
    by zero e = inl (let f : Some x ≡ Some y = e in cc)
    by (suc k) e = inr (there xs k y e)

module _ {X Y : Type 0} (f : X → List Y) where
  pub flat_in : (xs : List X) (x : X) (y : Y) → Contains xs x → Contains (f x) y → Contains (flat_map f xs) y
  flat_in [] x y w v = absurd (none_in x w)
  flat_in (z ∷ xs) x y w v = ⊎_elim
      (λ e. Contains-append_left (f z) (flat_map f xs) y (subst (λ (a : X). Contains (f a) y) e v))
      (λ u. Contains-append_right (f z) (flat_map f xs) y (flat_in xs x y u v))
      (member_cases z x xs w)

  pub in_flat : (xs : List X) (y : Y) → Contains (flat_map f xs) y → (x : X) × Contains xs x × Contains (f x) y
  in_flat [] y w = absurd (none_in y w)
  in_flat (x ∷ xs) y w = ⊎_elim
      (λ v. (x, head_in x xs, v))
      (λ v. let r = in_flat xs y v in (r.0, tail_in x r.0 xs r.1, r.2))
      (Contains-append_cases (f x) (flat_map f xs) y w)

module _ {X Y : Type 0} (h : X → Y) where
  pub mapped_in : (xs : List X) (y : Y) → Contains (map h xs) y → (x : X) × Contains xs x × (h x ≡ y)
  mapped_in [] y w = absurd (none_in y w)
  mapped_in (x ∷ xs) y w = ⊎_elim
      (λ e. (x, head_in x xs, sym e))
      (λ u. let r = mapped_in xs y u in (r.0, tail_in x r.0 xs r.1, r.2))
      (member_cases (h x) y (map h xs) w)

-- what is picked is in the list and has the property
pub picked : {X : Type 0} (P : X → Type 0) (xs ys : List X) (x : X) → Picks P xs ys → Contains ys x → Contains xs x × P x
picked P _ _ x end w = absurd (none_in x w)
picked {X = X} P _ _ x (taken y xs ys p rest) w = ⊎_elim
    (λ e. (subst (λ (z : X). Contains (y ∷ xs) z) (sym e) (head_in y xs), subst P (sym e) p))
    (λ v. let r = picked P xs ys x rest v in (tail_in y x xs r.0, r.1))
    (member_cases y x ys w)
picked P _ _ x (left y xs ys p rest) w = let r = picked P xs ys x rest w in (tail_in y x xs r.0, r.1)

-- each by itself, as one fact
pub each_so : {X : Type 0} (P : X → Type 0) (xs : List X) → ((x : X) → Contains xs x → P x) → AllByRecursion P xs
each_so P [] h = tt
each_so P (x ∷ xs) h = (h x (head_in x xs), each_so P xs (λ y w. h y (tail_in x y xs w)))

pub so_each : {X : Type 0} (P : X → Type 0) (xs : List X) → AllByRecursion P xs → (x : X) → Contains xs x → P x
so_each P [] h x w = absurd (none_in x w)
so_each P (y ∷ ys) h x w = ⊎_elim (λ e. subst P (sym e) h.0) (λ u. so_each P ys h.1 x u) (member_cases y x ys w)

pub all_append : {X : Type 0} (P : X → Type 0) (xs ys : List X) → AllByRecursion P xs → AllByRecursion P ys → AllByRecursion P (xs ++ ys)
all_append P [] ys h k = k
all_append P (x ∷ xs) ys h k = (h.0, all_append P xs ys h.1 k)

pub all_mapped : {X Y : Type 0} (P : X → Type 0) (Q : Y → Type 0) (f : X → Y) → ((x : X) → P x → Q (f x)) → (xs : List X) → AllByRecursion P xs → AllByRecursion Q (map f xs)
all_mapped P Q f each [] h = tt
all_mapped P Q f each (x ∷ xs) h = (each x h.0, all_mapped P Q f each xs h.1)
