-- Members of lists, and lists in which each element stands once.
use Rattle.std.proofs.Common.{◌≡◌, sym, ap, refl, subst, ℕ, zero, suc, ◌<◌, ◌⊎◌, inl, inr, List, [], ◌∷◌, ◌++◌, length, map, get_or, slice_get, Some, None, arith}
use Rattle.std.specs.List.{Contains, flat_map}

module _ {X : Type 0} where
  abbrev pub Has : List X → X → Type 0
  Has [] x = ⊥
  Has (y ∷ ys) x = (y ≡ x) ⊎ Has ys x

  abbrev pub Apart : List X → Type 0
  Apart [] = Unit {0}
  Apart (x ∷ xs) = (Has xs x → ⊥) × Apart xs

  -- ---- members

  pub has_left : (xs ys : List X) (x : X) → Has xs x → Has (xs ++ ys) x
  has_left [] ys x h = absurd h
  has_left (z ∷ xs) ys x (inl e) = inl e
  has_left (z ∷ xs) ys x (inr h) = inr (has_left xs ys x h)

  pub has_right : (xs ys : List X) (x : X) → Has ys x → Has (xs ++ ys) x
  has_right [] ys x h = h
  has_right (z ∷ xs) ys x h = inr (has_right xs ys x h)

  pub has_cases : (xs ys : List X) (x : X) → Has (xs ++ ys) x → Has xs x ⊎ Has ys x
  has_cases [] ys x h = inr h
  has_cases (z ∷ xs) ys x (inl e) = inl (inl e)
  has_cases (z ∷ xs) ys x (inr h) = by (has_cases xs ys x h)
    where
      by : Has xs x ⊎ Has ys x → Has (z ∷ xs) x ⊎ Has ys x
      by (inl w) = inl (inr w)
      by (inr w) = inr w

  pub has_at : (xs : List X) (k : ℕ) (x : X) → slice_get xs k ≡ Some x → Has xs x
  has_at [] k x e = absurd (let f : None ≡ Some x = e in cc)
  has_at (y ∷ xs) zero x e = inl (let f : Some y ≡ Some x = e in cc)
  has_at (y ∷ xs) (suc k) x e = inr (has_at xs k x e)

  pub at_has : (xs : List X) (x : X) → Has xs x → (k : ℕ) × (slice_get xs k ≡ Some x)
  at_has [] x h = absurd h
  at_has (y ∷ xs) x (inl e) = (0, ap (λ (z : X). Some z) e)
  at_has (y ∷ xs) x (inr h) = let r = at_has xs x h in (suc r.0, r.1)

  has_read : (xs : List X) (k : ℕ) (x : X) → k < length xs → get_or xs k x ≡ x → Has xs x
  has_read [] k x low e = absurd (omega (arith, low))
  has_read (y ∷ xs) zero x low e = inl e
  has_read (y ∷ xs) (suc k) x low e = inr (has_read xs k x (omega (arith, low)) e)

  pub has_contained : (xs : List X) (x : X) → Contains xs x → Has xs x
  has_contained xs x h = has_read xs h.0 x h.1 h.2

  pub contained_has : (xs : List X) (x : X) → Has xs x → Contains xs x
  contained_has [] x h = absurd h
  contained_has (y ∷ xs) x (inl e) = (0, omega arith, e)
  contained_has (y ∷ xs) x (inr h) = let r = contained_has xs x h in (suc r.0, (let low = r.1 in omega arith), r.2)

  -- what is within stands somewhere
  pub read_there : (xs : List X) (k : ℕ) → k < length xs → (x : X) × (slice_get xs k ≡ Some x)
  read_there [] k low = absurd (omega (arith, low))
  read_there (y ∷ xs) zero low = (y, refl)
  read_there (y ∷ xs) (suc k) low = read_there xs k (omega (arith, low))

  pub contained_at : (xs : List X) (k : ℕ) (x : X) → slice_get xs k ≡ Some x → Contains xs x
  contained_at xs k x e = contained_has xs x (has_at xs k x e)

  -- ---- each once

  pub apart_append : (xs ys : List X) → Apart xs → Apart ys → ((x : X) → Has xs x → Has ys x → ⊥) → Apart (xs ++ ys)
  apart_append [] ys a b none = b
  apart_append (x ∷ xs) ys a b none = (λ h. by (has_cases xs ys x h), apart_append xs ys a.1 b (λ z h k. none z (inr h) k))
    where
      by : Has xs x ⊎ Has ys x → ⊥
      by (inl w) = a.0 w
      by (inr w) = none x (inl refl) w

  pub apart_places : (xs : List X) (i j : ℕ) (x : X) → Apart xs → slice_get xs i ≡ Some x → slice_get xs j ≡ Some x → i ≡ j
  apart_places [] i j x a e f = absurd (let g : None ≡ Some x = e in cc)
  apart_places (y ∷ xs) zero zero x a e f = refl
  apart_places (y ∷ xs) zero (suc j) x a e f = absurd (let g : Some y ≡ Some x = e in let same : x ≡ y = cc in a.0 (subst (λ (z : X). Has xs z) same (has_at xs j x f)))
  apart_places (y ∷ xs) (suc i) zero x a e f = absurd (let g : Some y ≡ Some x = f in let same : x ≡ y = cc in a.0 (subst (λ (z : X). Has xs z) same (has_at xs i x e)))
  apart_places (y ∷ xs) (suc i) (suc j) x a e f = ap (λ (n : ℕ). suc n) (apart_places xs i j x a.1 e f)

  -- ---- the last element

  pub same_last : (xs ys : List X) (x y : X) → xs ++ x ∷ [] ≡ ys ++ y ∷ [] → (xs ≡ ys) × (x ≡ y)
  same_last [] [] x y e = (refl, (let f : x ∷ [] ≡ y ∷ [] = e in cc))
  same_last [] (b ∷ []) x y e = absurd (let f : x ∷ [] ≡ b ∷ y ∷ [] = e in cc)
  same_last [] (b ∷ c ∷ ys) x y e = absurd (let f : x ∷ [] ≡ b ∷ c ∷ (ys ++ y ∷ []) = e in cc)
  same_last (a ∷ []) [] x y e = absurd (let f : a ∷ x ∷ [] ≡ y ∷ [] = e in cc)
  same_last (a ∷ c ∷ xs) [] x y e = absurd (let f : a ∷ c ∷ (xs ++ x ∷ []) ≡ y ∷ [] = e in cc)
  same_last (a ∷ xs) (b ∷ ys) x y e =
      let f : a ∷ (xs ++ x ∷ []) ≡ b ∷ (ys ++ y ∷ []) = e in
      let head : a ≡ b = cc in
      let rest : xs ++ x ∷ [] ≡ ys ++ y ∷ [] = cc in
      let r = same_last xs ys x y rest in
      let front : xs ≡ ys = r.0 in
      let whole : a ∷ xs ≡ b ∷ ys = cc in
      (whole, r.1)

module _ {X Y : Type 0} where
  pub has_mapped : (f : X → Y) (xs : List X) (y : Y) → Has (map f xs) y → (x : X) × Has xs x × (f x ≡ y)
  has_mapped f [] y h = absurd h
  has_mapped f (x ∷ xs) y (inl e) = (x, inl refl, e)
  has_mapped f (x ∷ xs) y (inr h) = let r = has_mapped f xs y h in (r.0, inr r.1, r.2)

  pub mapped_has : (f : X → Y) (xs : List X) (x : X) → Has xs x → Has (map f xs) (f x)
  mapped_has f [] x h = absurd h
  mapped_has f (z ∷ xs) x (inl e) = inl (ap f e)
  mapped_has f (z ∷ xs) x (inr h) = inr (mapped_has f xs x h)

  pub has_flat : (f : X → List Y) (xs : List X) (y : Y) → Has (flat_map f xs) y → (x : X) × Has xs x × Has (f x) y
  has_flat f [] y h = absurd h
  has_flat f (x ∷ xs) y h = by (has_cases (f x) (flat_map f xs) y h) (λ w. let r = has_flat f xs y w in (r.0, inr r.1, r.2))
    where
      by : Has (f x) y ⊎ Has (flat_map f xs) y → (Has (flat_map f xs) y → (z : X) × Has (x ∷ xs) z × Has (f z) y) → (z : X) × Has (x ∷ xs) z × Has (f z) y
      by (inl w) rest = (x, inl refl, w)
      by (inr w) rest = rest w

  pub flat_has : (f : X → List Y) (xs : List X) (x : X) (y : Y) → Has xs x → Has (f x) y → Has (flat_map f xs) y
  flat_has f [] x y h w = absurd h
  flat_has f (z ∷ xs) x y (inl e) w = has_left (f z) (flat_map f xs) y (subst (λ (v : X). Has (f v) y) (sym e) w)
  flat_has f (z ∷ xs) x y (inr h) w = has_right (f z) (flat_map f xs) y (flat_has f xs x y h w)

  pub mapped_at : (f : X → Y) (xs : List X) (k : ℕ) (y : Y) → slice_get (map f xs) k ≡ Some y → (x : X) × (slice_get xs k ≡ Some x) × (f x ≡ y)
  mapped_at f [] k y e = absurd (let g : None ≡ Some y = e in cc)
  mapped_at f (x ∷ xs) zero y e = (x, refl, (let g : Some (f x) ≡ Some y = e in cc))
  mapped_at f (x ∷ xs) (suc k) y e = mapped_at f xs k y e

  pub at_mapped : (f : X → Y) (xs : List X) (k : ℕ) (x : X) → slice_get xs k ≡ Some x → slice_get (map f xs) k ≡ Some (f x)
  at_mapped f [] k x e = absurd (let g : None ≡ Some x = e in cc)
  at_mapped f (y ∷ xs) zero x e = let g : Some y ≡ Some x = e in let same : y ≡ x = cc in ap (λ (z : X). Some (f z)) same
  at_mapped f (y ∷ xs) (suc k) x e = at_mapped f xs k x e

  pub apart_flat : (f : X → List Y) (xs : List X) → Apart xs → ((x : X) → Has xs x → Apart (f x)) → ((x z : X) (y : Y) → Has xs x → Has xs z → Has (f x) y → Has (f z) y → x ≡ z) → Apart (flat_map f xs)
  apart_flat f [] a each same = tt
  apart_flat f (x ∷ xs) a each same =
      apart_append (f x) (flat_map f xs) (each x (inl refl))
      (apart_flat f xs a.1 (λ z h. each z (inr h)) (λ v z y h k. same v z y (inr h) (inr k)))
      (λ y h k.
      let w = has_flat f xs y k in
      a.0 (subst (λ (z : X). Has xs z) (sym (same x w.0 y (inl refl) (inr w.1) h w.2)) w.1))

  pub apart_map : (f : X → Y) (xs : List X) → Apart xs → ((x z : X) → Has xs x → Has xs z → f x ≡ f z → x ≡ z) → Apart (map f xs)
  apart_map f [] a same = tt
  apart_map f (x ∷ xs) a same = (
    λ h. let w = has_mapped f xs (f x) h in a.0 (subst (λ (z : X). Has xs z) (same w.0 x (inr w.1) (inl refl) w.2) w.1),
    apart_map f xs a.1 (λ v z h k. same v z (inr h) (inr k)),
  )
