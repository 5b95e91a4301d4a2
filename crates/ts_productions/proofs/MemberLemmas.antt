-- Members of lists, and the longest alternative of a list.
use Rattle.std.proofs.Common.{◌≡◌, ◌∙◌, ap, subst, refl, ℕ, zero, suc, ◌<◌, ◌⊎◌, inl, inr, ⊎_elim, List, [], ◌∷◌, length, slice_get, Some, arith}
use Rattle.std.specs.List.{Contains, flat_map}
use Rattle.std.proofs.lemmas.Bool.{cases_lt}
use Rattle.std.proofs.lemmas.List.Elements.{Contains-append_left, Contains-append_right, Contains-append_cases}
use Rattle.std.proofs.lemmas.Option.{slice_get_within, slice_get-get_or, get_or_from_slice_get}
use Rattle.ts_rules.specs.declared.tree.Alternative.{Alternative}
use Rattle.ts_rules.specs.Alternatives.{Alternatives, longest_of}

-- what stands at a place is in the list, and what is in the list stands at a place
pub there : {X : Type 0} (xs : List X) (k : ℕ) (x : X) → slice_get xs k ≡ Some x → Contains xs x
there xs k x h = (k, slice_get_within xs k x h, get_or_from_slice_get xs k x x h)

pub at_of : {X : Type 0} (xs : List X) (x : X) → (w : Contains xs x) → slice_get xs w.0 ≡ Some x
at_of xs x w = slice_get-get_or xs w.0 x w.1 ∙ ap Some w.2

pub none_in : {X : Type 0} (x : X) → Contains [] x → ⊥
none_in x w = let lt = w.1 in omega arith

pub head_in : {X : Type 0} (x : X) (xs : List X) → Contains (x ∷ xs) x
head_in x xs = there (x ∷ xs) 0 x refl

pub tail_in : {X : Type 0} (x y : X) (xs : List X) → Contains xs y → Contains (x ∷ xs) y
tail_in x y xs w = there (x ∷ xs) (suc w.0) y (at_of xs y w)

-- a member is the head or is in the tail
pub member_cases : {X : Type 0} (x y : X) (xs : List X) → Contains (x ∷ xs) y → (y ≡ x) ⊎ Contains xs y
member_cases x y xs w = by w.0 (at_of (x ∷ xs) y w)
  where
    by : (k : ℕ) → slice_get (x ∷ xs) k ≡ Some y → (y ≡ x) ⊎ Contains xs y
    by zero e = inl (let f : Some x ≡ Some y = e in cc)
    by (suc k) e = inr (there xs k y e)

module _ {X Y : Type 0} (f : X → List Y) where
  pub flat_in : (xs : List X) (x : X) (y : Y) → Contains xs x → Contains (f x) y → Contains (flat_map f xs) y
  flat_in [] x y w v = absurd (none_in x w)
  flat_in (z ∷ xs) x y w v = ⊎_elim
      (λ e. Contains-append_left (f z) (flat_map f xs) y (subst (λ (a : X). Contains (f a) y) e v))
      (λ u. Contains-append_right (f z) (flat_map f xs) y (flat_in xs x y u v))
      (member_cases z x xs w)

  pub in_flat : (xs : List X) (y : Y) → Contains (flat_map f xs) y → (x : X) × Contains xs x × Contains (f x) y
  in_flat [] y w = absurd (none_in y w)
  in_flat (x ∷ xs) y w = ⊎_elim
      (λ v. (x, head_in x xs, v))
      (λ v. let r = in_flat xs y v in (r.0, tail_in x r.0 xs r.1, r.2))
      (Contains-append_cases (f x) (flat_map f xs) y w)

-- some alternative is as long as the longest
pub longest_has : (xs : Alternatives) (m : ℕ) → m < longest_of xs → (one : Alternative) × Contains xs one × (m < length one.steps)
longest_has [] m lt = absurd (omega arith)
longest_has (x ∷ xs) m lt = ⊎_elim
    (λ here. (x, head_in x xs, here))
    (λ past. let r = longest_has xs m (omega (arith, lt, past)) in (r.0, tail_in x r.0 xs r.1, r.2))
    (cases_lt m (length x.steps))

pub has_longest : (xs : Alternatives) (m : ℕ) (one : Alternative) → Contains xs one → m < length one.steps → m < longest_of xs
has_longest [] m one w lt = absurd (none_in one w)
has_longest (x ∷ xs) m one w lt = ⊎_elim
    (λ e. let same : length one.steps ≡ length x.steps = ap (λ (p : Alternative). length p.steps) e in omega (arith, same, lt))
    (λ v. let more = has_longest xs m one v lt in omega (arith, more))
    (member_cases x one xs w)
