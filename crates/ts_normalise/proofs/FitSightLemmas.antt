-- Lists by first sight: they are no longer than what was seen, and a function that keeps apart what is
-- apart takes them to such lists.
use Rattle.std.proofs.Common.{◌≡◌, ◌∙◌, sym, ap, subst, ℕ, zero, suc, ◌≤◌, inl, inr, ⊎_elim, List, map, length, slice_get, Some, None, option_map, arith}
use Rattle.std.specs.List.{Contains}
use Rattle.std.proofs.lemmas.Bool.{cases_lt}
use Rattle.std.proofs.lemmas.Option.{slice_get_within, slice_get_cases, slice_get-map}
use Rattle.ts_rules.specs.FirstSights.{FirstAt, AreFirstSights}
use Rattle.ts_normalise.proofs.ListLemmas.{there, at_of, some_first}

module _ {X : Type 0} (seen : List X) where
  -- the first places rise at least as fast as the places
  rises : (found : List X) → AreFirstSights seen found → (k : ℕ) (x : X) → slice_get found k ≡ Some x → ((j : ℕ) → FirstAt seen x j → k ≤ j → ⊥) → ⊥
  rises found s zero x e never = some_first seen x (s.only x (there found 0 x e)) (λ j f. never j f (omega arith))
  rises found s (suc k) y e never = elim (slice_get_cases found k).1 [
    | inl u ↦ rises found s k u.0 u.2 (λ i g le. some_first seen y (s.only y (there found (suc k) y e)) (λ j f.
        never j f (let lt = s.rising k (suc k) i j u.0 y (omega arith) u.2 e g f in omega (arith, lt, le))))
    | inr u ↦ let lt = slice_get_within found (suc k) y e in let ge = u.0 in omega (arith, lt, ge)
  ]

  pub sights_length : (found : List X) → AreFirstSights seen found → length found ≤ length seen
  sights_length found s = ⊎_elim
      (λ lt. absurd (elim (slice_get_cases found (length seen)).1 [
        | inl u ↦ rises found s (length seen) u.0 u.2 (λ j f le. let within = slice_get_within seen j u.0 f.at in let z : ⊥ = omega (arith, within, le) in z)
        | inr u ↦ let ge = u.0 in let z : ⊥ = omega (arith, lt, ge) in z
      ]))
      (λ le. le)
      (cases_lt (length seen) (length found))

-- ---- what comes of each

module _ {X Y : Type 0} (h : X → Y) where
  some_is : (x y : Y) → Some x ≡ Some y → x ≡ y
  some_is x y e = cc

  some_none : (x : Y) → None ≡ Some x → ⊥
  some_none x e = cc

  -- what stands in the second list stands in the first at the same place
  mapped_at : (xs : List X) (k : ℕ) (y : Y) → slice_get (map h xs) k ≡ Some y → (x : X) × (slice_get xs k ≡ Some x) × (h x ≡ y)
  mapped_at xs k y e = elim (slice_get_cases xs k).1 [
    | inl u ↦ (u.0, u.2, some_is (h u.0) y (ap (option_map h) (sym u.2) ∙ sym (slice_get-map h xs k) ∙ e))
    | inr u ↦ absurd (some_none y (ap (option_map h) (sym u.1) ∙ sym (slice_get-map h xs k) ∙ e))
  ]

  at_mapped : (xs : List X) (k : ℕ) (x : X) → slice_get xs k ≡ Some x → slice_get (map h xs) k ≡ Some (h x)
  at_mapped xs k x e = slice_get-map h xs k ∙ ap (option_map h) e

  pub mapped_in : (xs : List X) (y : Y) → Contains (map h xs) y → (x : X) × Contains xs x × (h x ≡ y)
  mapped_in xs y w = let r = mapped_at xs w.0 y (at_of (map h xs) y w) in (r.0, there xs w.0 r.0 r.1, r.2)

  pub in_mapped : (xs : List X) (x : X) → Contains xs x → Contains (map h xs) (h x)
  in_mapped xs x w = there (map h xs) w.0 (h x) (at_mapped xs w.0 x (at_of xs x w))

module _ {X Y : Type 0} (h : X → Y) (apart : (x y : X) → h x ≡ h y → x ≡ y) where
  first_back : (seen : List X) (x : X) (j : ℕ) → FirstAt (map h seen) (h x) j → FirstAt seen x j
  first_back seen x j f = let r = mapped_at h seen j (h x) f.at in record {
    at = r.1 ∙ ap Some (apart r.0 x r.2);
    least = λ i e. f.least i (at_mapped h seen i x e);
  }

  pub sights_mapped : (seen found : List X) → AreFirstSights seen found → AreFirstSights (map h seen) (map h found)
  sights_mapped seen found s = record {
    every = λ y w. let r = mapped_in h seen y w in subst (λ (z : Y). Contains (map h found) z) r.2 (in_mapped h found r.0 (s.every r.0 r.1));
    only = λ y w. let r = mapped_in h found y w in subst (λ (z : Y). Contains (map h seen) z) r.2 (in_mapped h seen r.0 (s.only r.0 r.1));
    rising = λ m n j k x y lt e d f g.
        let p = mapped_at h found m x e in
        let q = mapped_at h found n y d in
        s.rising m n j k p.0 q.0 lt p.1 q.1
        (first_back seen p.0 j (subst (λ (z : Y). FirstAt (map h seen) z j) (sym p.2) f))
        (first_back seen q.0 k (subst (λ (z : Y). FirstAt (map h seen) z k) (sym q.2) g));
  }
