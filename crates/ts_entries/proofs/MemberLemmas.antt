-- Members of lists, and lists that are made place by place.
use Rattle.std.proofs.Common.{◌≡◌, ◌∙◌, sym, ap, subst, refl, ℕ, zero, suc, ◌+◌, ◌<◌, ◌≤◌, ◌⊎◌, inl, inr, ⊎_elim, List, [], ◌∷◌, ◌++◌, map, length, get_or, take, slice_get, Some, arith}
use Rattle.std.specs.Borrow.{Bor}
use Rattle.std.specs.List.{Contains, flat_map}
use Rattle.std.proofs.lemmas.List.{take_more, take_all}
use Rattle.std.proofs.lemmas.List.Elements.{Contains-append_left, Contains-append_right, Contains-append_cases}
use Rattle.std.proofs.lemmas.Option.{slice_get_within, slice_get-get_or, get_or_from_slice_get}
use Rattle.ts_rules.specs.FirstSights.{Picks, end, taken, left, Each, both}

-- what stands at a place is in the list, and what is in the list stands at a place
pub there : {X : Type 0} (xs : List X) (k : ℕ) (x : X) → slice_get xs k ≡ Some x → Contains xs x
there xs k x h = (k, slice_get_within xs k x h, get_or_from_slice_get xs k x x h)

pub at_of : {X : Type 0} (xs : List X) (x : X) → (w : Contains xs x) → slice_get xs w.0 ≡ Some x
at_of xs x w = slice_get-get_or xs w.0 x w.1 ∙ ap Some w.2

pub none_in : {X : Type 0} (x : X) → Contains [] x → ⊥
none_in x w = let lt = w.1 in omega arith

pub head_in : {X : Type 0} (x : X) (xs : List X) → Contains (x ∷ xs) x
head_in x xs = there (x ∷ xs) 0 x refl

pub tail_in : {X : Type 0} (x y : X) (xs : List X) → Contains xs y → Contains (x ∷ xs) y
tail_in x y xs w = there (x ∷ xs) (suc w.0) y (at_of xs y w)

-- a member is the head or is in the tail
pub member_cases : {X : Type 0} (x y : X) (xs : List X) → Contains (x ∷ xs) y → (y ≡ x) ⊎ Contains xs y
member_cases x y xs w = by w.0 (at_of (x ∷ xs) y w)
  where
    by : (k : ℕ) → slice_get (x ∷ xs) k ≡ Some y → (y ≡ x) ⊎ Contains xs y
    by zero e = inl (let f : Some x ≡ Some y = e in cc)
    by (suc k) e = inr (there xs k y e)

module _ {X Y : Type 0} (f : X → Y) where
  pub map_in : (xs : List X) (x : X) → Contains xs x → Contains (map f xs) (f x)
  map_in [] x w = absurd (none_in x w)
  map_in (y ∷ xs) x w = ⊎_elim
      (λ e. subst (λ (z : Y). Contains (f y ∷ map f xs) z) (ap f (sym e)) (head_in (f y) (map f xs)))
      (λ v. tail_in (f y) (f x) (map f xs) (map_in xs x v))
      (member_cases y x xs w)

  pub in_map : (xs : List X) (y : Y) → Contains (map f xs) y → (x : X) × Contains xs x × (f x ≡ y)
  in_map [] y w = absurd (none_in y w)
  in_map (x ∷ xs) y w = ⊎_elim
      (λ e. (x, head_in x xs, sym e))
      (λ v. let r = in_map xs y v in (r.0, tail_in x r.0 xs r.1, r.2))
      (member_cases (f x) y (map f xs) w)

module _ {X Y : Type 0} (f : X → List Y) where
  pub flat_in : (xs : List X) (x : X) (y : Y) → Contains xs x → Contains (f x) y → Contains (flat_map f xs) y
  flat_in [] x y w v = absurd (none_in x w)
  flat_in (z ∷ xs) x y w v = ⊎_elim
      (λ e. Contains-append_left (f z) (flat_map f xs) y (subst (λ (a : X). Contains (f a) y) e v))
      (λ u. Contains-append_right (f z) (flat_map f xs) y (flat_in xs x y u v))
      (member_cases z x xs w)

  pub in_flat : (xs : List X) (y : Y) → Contains (flat_map f xs) y → (x : X) × Contains xs x × Contains (f x) y
  in_flat [] y w = absurd (none_in y w)
  in_flat (x ∷ xs) y w = ⊎_elim
      (λ v. (x, head_in x xs, v))
      (λ v. let r = in_flat xs y v in (r.0, tail_in x r.0 xs r.1, r.2))
      (Contains-append_cases (f x) (flat_map f xs) y w)

pub one_more : {X : Type 0} (all : List X) (i : ℕ) (x : X) → i < length all → x ≡ get_or all i x → take (i + 1) all ≡ take i all ++ x ∷ []
one_more {X = X} all i x lt at = take_more all i x lt ∙ ap (λ (y : X). take i all ++ y ∷ []) (sym at)

module _ {X : Type 0} (P : X → Type 0) where
  -- what is picked is in the list and has the property
  pub picked : (xs ys : List X) (x : X) → Picks P xs ys → Contains ys x → Contains xs x × P x
  picked _ _ x end w = absurd (none_in x w)
  picked _ _ x (taken y xs ys p rest) w = ⊎_elim
      (λ e. (subst (λ (z : X). Contains (y ∷ xs) z) (sym e) (head_in y xs), subst P (sym e) p))
      (λ v. let r = picked xs ys x rest v in (tail_in y x xs r.0, r.1))
      (member_cases y x ys w)
  picked _ _ x (left y xs ys p rest) w = let r = picked xs ys x rest w in (tail_in y x xs r.0, r.1)

  -- what is in the list and has the property is picked
  pub picks_all : (xs ys : List X) (x : X) → Picks P xs ys → Contains xs x → P x → Contains ys x
  picks_all _ _ x end w h = w
  picks_all _ _ x (taken y xs ys p rest) w h = ⊎_elim
      (λ e. subst (λ (z : X). Contains (y ∷ ys) z) (sym e) (head_in y ys))
      (λ v. tail_in y x ys (picks_all xs ys x rest v h))
      (member_cases y x xs w)
  picks_all _ _ x (left y xs ys p rest) w h = ⊎_elim
      (λ e. absurd (p (subst P e h)))
      (λ v. picks_all xs ys x rest v h)
      (member_cases y x xs w)

-- ---- place by place

module _ {X Y : Type 0} (R : X → Y → Type 0) where
  pub each_begin : (all : List X) → Each R (take 0 all) []
  each_begin [] = end
  each_begin (x ∷ all) = end

  each_push : (xs : List X) (ys : List Y) (x : X) (y : Y) → Each R xs ys → R x y → Each R (xs ++ x ∷ []) (ys ++ y ∷ [])
  each_push _ _ x y end r = both x y [] [] r end
  each_push _ _ x y (both a b us vs s rest) r = both a b (us ++ x ∷ []) (vs ++ y ∷ []) s (each_push us vs x y rest r)

  pub each_more : (all : List X) (ys new : List Y) (i : ℕ) (x : X) (y : Y) → i < length all → x ≡ get_or all i x → R x y → new ≡ ys ++ y ∷ [] → Each R (take i all) ys → Each R (take (i + 1) all) new
  each_more all ys new i x y lt at r is before =
      subst (λ (vs : List Y). Each R (take (i + 1) all) vs) (sym is) (subst (λ (xs : List X). Each R xs (ys ++ y ∷ [])) (sym (one_more all i x lt at)) (each_push (take i all) ys x y before r))

  pub each_all : (all : List X) (ys : List Y) (i : ℕ) → length all ≤ i → Each R (take i all) ys → Each R all ys
  each_all all ys i past before = subst (λ (xs : List X). Each R xs ys) (take_all i all past) before

  pub each_from : (xs : List X) (ys : List Y) → length ys ≡ length xs → ((k : ℕ) (x : X) (y : Y) → slice_get xs k ≡ Some x → slice_get ys k ≡ Some y → R x y) → Each R xs ys
  each_from [] [] same r = end
  each_from [] (y ∷ ys) same r = absurd (omega arith)
  each_from (x ∷ xs) [] same r = absurd (omega arith)
  each_from (x ∷ xs) (y ∷ ys) same r = both x y xs ys (r 0 x y refl refl) (each_from xs ys (omega arith) (λ k u v e f. r (suc k) u v e f))

-- from what is lent to what it is
pub each_told : {X Y : Type 0} (R : X → Y → Type 0) (xs : List (Bor X)) (ys : List Y) → Each (λ (x : Bor X) (y : Y). R x.now y) xs ys → Each R (map (λ (x : Bor X). x.now) xs) ys
each_told {X = X} R _ _ end = end
each_told {X = X} R _ _ (both x y xs ys r rest) = both x.now y (map (λ (x : Bor X). x.now) xs) ys r (each_told R xs ys rest)
