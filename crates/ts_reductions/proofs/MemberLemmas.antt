-- Members of lists, and the places where they stand.
use Rattle.std.specs.List.{Contains}
use Rattle.std.specs.Option.{option_map}
use Rattle.std.proofs.Common.{◌≡◌, ◌∙◌, sym, ap, refl, subst, ℕ, zero, suc, ◌<◌, List, [], ◌∷◌, length, map, take, drop, get_or, slice_get, Option, Some, arith}
use Rattle.std.proofs.lemmas.Option.{slice_get-get_or, slice_get_within, get_or_from_slice_get, slice_get-map}
use Rattle.std.proofs.lemmas.List.{length-map, take-append-drop}
use Rattle.std.proofs.lemmas.List.Elements.{Contains-append_left}

module _ {X : Type 0} where
  pub none_contained : (x : X) → Contains [] x → ⊥
  none_contained x h = let low = h.1 in omega (arith, low)

  pub only_one : (y x : X) → Contains (y ∷ []) x → y ≡ x
  only_one y x h = by h.0 h.1 h.2
    where
      by : (k : ℕ) → k < length (y ∷ []) → get_or (y ∷ []) k x ≡ x → y ≡ x
      by zero low e = e
      by (suc k) low e = absurd (omega (arith, low))

  pub first_contained : (x : X) (xs : List X) → Contains (x ∷ xs) x
  first_contained x xs = (0, omega arith, refl)

  pub contained_at : (xs : List X) (k : ℕ) (x : X) → slice_get xs k ≡ Some x → Contains xs x
  contained_at xs k x e = (k, slice_get_within xs k x e, get_or_from_slice_get xs k x x e)

  pub at_contained : (xs : List X) (x : X) → Contains xs x → (k : ℕ) × (slice_get xs k ≡ Some x)
  at_contained xs x h = (h.0, slice_get-get_or xs h.0 x h.1 ∙ ap (λ (y : X). Some y) h.2)

  pub read_at : (xs : List X) (k : ℕ) → k < length xs → (x : X) × (slice_get xs k ≡ Some x)
  read_at [] k low = absurd (omega (arith, low))
  read_at (x ∷ xs) zero low = (x, refl)
  read_at (x ∷ xs) (suc k) low = read_at xs k (omega (arith, low))

  pub take_contained : (n : ℕ) (xs : List X) (x : X) → Contains (take n xs) x → Contains xs x
  take_contained n xs x h = subst (λ (l : List X). Contains l x) (take-append-drop n xs) (Contains-append_left (take n xs) (drop n xs) x h)

module _ {X Y : Type 0} (f : X → Y) where
  mapped_at : (xs : List X) (k : ℕ) (x : X) → slice_get xs k ≡ Some x → slice_get (map f xs) k ≡ Some (f x)
  mapped_at xs k x e = slice_get-map f xs k ∙ ap (λ (o : Option X). option_map f o) e

  pub map_contained : (xs : List X) (x : X) → Contains xs x → Contains (map f xs) (f x)
  map_contained xs x h = let r = at_contained xs x h in contained_at (map f xs) r.0 (f x) (mapped_at xs r.0 x r.1)

  pub contained_map : (xs : List X) (y : Y) → Contains (map f xs) y → (x : X) × Contains xs x × (f x ≡ y)
  contained_map xs y h =
      let k = at_contained (map f xs) y h in
      let r = read_at xs k.0 (subst (λ (n : ℕ). k.0 < n) (length-map xs f) (slice_get_within (map f xs) k.0 y k.1)) in
      let same : Some (f r.0) ≡ Some y = sym (mapped_at xs k.0 r.0 r.1) ∙ k.1 in
      (r.0, contained_at xs k.0 r.0 r.1, cc)
