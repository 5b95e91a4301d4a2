-- There is one list by first sight, and it is no longer than what was seen.
use Rattle.std.proofs.Common.{◌≡◌, ◌∙◌, sym, ap, subst, refl, ℕ, zero, suc, ◌<◌, ◌≤◌, inl, inr, ⊎_elim, List, [], ◌∷◌, map, length, slice_get, Option, Some, None, option_map, arith}
use Rattle.std.specs.List.{Contains}
use Rattle.std.proofs.lemmas.Bool.{cases_lt}
use Rattle.std.proofs.lemmas.Option.{slice_get_within, slice_get_cases, slice_get-map}
use Rattle.ts_rules.specs.FirstSights.{FirstAt, AreFirstSights}
use Rattle.ts_productions.proofs.MemberLemmas.{there, at_of}

-- ---- lists in one order

past : {X : Type 0} (ys : List X) (n i : ℕ) (x : X) → slice_get ys n ≡ None → slice_get ys i ≡ Some x → n ≤ i → ⊥
past {X = X} [] n i x d e ge = let lt : i < 0 = slice_get_within {A = X} [] i x e in omega arith
past (y ∷ ys) zero i x d e ge = let h : Some y ≡ None = d in cc
past (y ∷ ys) (suc n) zero x d e ge = omega arith
past (y ∷ ys) (suc n) (suc i) x d e ge = past ys n i x d e (omega arith)

abbrev InOrder : {X : Type 0} → (X → X → Type 0) → List X → Type 0
InOrder {X = X} Before xs = (j k : ℕ) (x y : X) → j < k → slice_get xs j ≡ Some x → slice_get xs k ≡ Some y → Before x y

module _ {X : Type 0} (Before : X → X → Type 0) (not_both : (x y : X) → Before x y → Before y x → ⊥) where
  -- lists in one order with the same members are equal at each place
  same_at : (xs ys : List X) → InOrder Before xs → InOrder Before ys → ((x : X) → Contains xs x → Contains ys x) → ((x : X) → Contains ys x → Contains xs x)
      → (k : ℕ) → ((j : ℕ) → j < k → slice_get xs j ≡ slice_get ys j) → (x y : X) → slice_get xs k ≡ Some x → slice_get ys k ≡ Some y → x ≡ y
  same_at xs ys first second there_too here_too k same x y e d =
      let w = there_too x (there xs k x e) in
      let v = here_too y (there ys k y d) in
      by w.0 v.0 (at_of ys x w) (at_of xs y v)
    where
      by : (i j : ℕ) → slice_get ys i ≡ Some x → slice_get xs j ≡ Some y → x ≡ y
      by i j a b = ⊎_elim
          (λ lt. absurd (let h = first i k x x lt (same i lt ∙ a) e in not_both x x h h))
          (λ ge. ⊎_elim
          (λ lt. ⊎_elim
          (λ less. absurd (let h = second j k y y less (sym (same j less) ∙ b) d in not_both y y h h))
          (λ more. ⊎_elim
          (λ far. absurd (not_both x y (first k j x y far e b) (second k i y x lt d a)))
          (λ near. let h : j ≡ k = omega arith in let f : Some x ≡ Some y = sym e ∙ ap (slice_get xs) (sym h) ∙ b in cc)
          (cases_lt k j))
          (cases_lt j k))
          (λ le. let h : i ≡ k = omega arith in let f : Some x ≡ Some y = sym a ∙ ap (slice_get ys) h ∙ d in cc)
          (cases_lt k i))
          (cases_lt i k)

  -- what stands at a place where the other list has ended stands nowhere in the other
  short : (ys xs : List X) (x : X) (n : ℕ) → slice_get xs n ≡ Some x → slice_get ys n ≡ None → ((i : ℕ) → i < n → slice_get ys i ≡ slice_get xs i) → Contains ys x → InOrder Before xs → ⊥
  short ys xs x n e d before w order = ⊎_elim
      (λ lt. let h = order w.0 n x x lt (sym (before w.0 lt) ∙ at_of ys x w) e in not_both x x h h)
      (λ ge. past ys n w.0 x d (at_of ys x w) ge)
      (cases_lt w.0 n)

  -- and so at each place below any number
  same_places : (xs ys : List X) → InOrder Before xs → InOrder Before ys → ((x : X) → Contains xs x → Contains ys x) → ((x : X) → Contains ys x → Contains xs x)
      → (n : ℕ) (j : ℕ) → j < n → slice_get xs j ≡ slice_get ys j
  same_places xs ys first second there_too here_too zero j lt = absurd (omega arith)
  same_places xs ys first second there_too here_too (suc n) j lt = ⊎_elim
      (λ less. same_places xs ys first second there_too here_too n j less)
      (λ ge. let h : j ≡ n = omega arith in subst (λ (i : ℕ). slice_get xs i ≡ slice_get ys i) (sym h) (by (slice_get xs n) (slice_get ys n) refl refl (λ i less. same_places xs ys first second there_too here_too n i less)))
      (cases_lt j n)
    where
      by : (a b : Option X) → slice_get xs n ≡ a → slice_get ys n ≡ b → ((i : ℕ) → i < n → slice_get xs i ≡ slice_get ys i) → slice_get xs n ≡ slice_get ys n
      by None None e d before = e ∙ sym d
      by (Some x) (Some y) e d before = e ∙ ap Some (same_at xs ys first second there_too here_too n before x y e d) ∙ sym d
      by (Some x) None e d before = absurd (short ys xs x n e d (λ i less. sym (before i less)) (there_too x (there xs n x e)) first)
      by None (Some y) e d before = absurd (short xs ys y n d e before (here_too y (there ys n y d)) second)

same_list : {X : Type 0} (xs ys : List X) → ((k : ℕ) → slice_get xs k ≡ slice_get ys k) → xs ≡ ys
same_list [] [] h = refl
same_list [] (y ∷ ys) h = absurd (let e : None ≡ Some y = h 0 in cc)
same_list (x ∷ xs) [] h = absurd (let e : Some x ≡ None = h 0 in cc)
same_list {X = X} (x ∷ xs) (y ∷ ys) h =
    let e : Some x ≡ Some y = h 0 in
    let f : xs ≡ ys = same_list xs ys (λ k. h (suc k)) in
    cc

one_order : {X : Type 0} (Before : X → X → Type 0) → ((x y : X) → Before x y → Before y x → ⊥) → (xs ys : List X) → InOrder Before xs → InOrder Before ys
    → ((x : X) → Contains xs x → Contains ys x) → ((x : X) → Contains ys x → Contains xs x) → xs ≡ ys
one_order Before not_both xs ys first second there_too here_too = same_list xs ys (λ k. same_places Before not_both xs ys first second there_too here_too (suc k) k (omega arith))

-- ---- first sights

module _ {X : Type 0} (seen : List X) where
  -- what was seen has a first place, as far as a contradiction asks
  some_first : (x : X) → Contains seen x → ((j : ℕ) → FirstAt seen x j → ⊥) → ⊥
  some_first x w never = below (suc w.0) w.0 (omega arith) (at_of seen x w)
    where
      below : (n : ℕ) → (j : ℕ) → j < n → slice_get seen j ≡ Some x → ⊥
      below zero j lt e = omega arith
      below (suc n) j lt e = ⊎_elim
          (λ less. below n j less e)
          (λ ge. let h : j ≡ n = omega arith in
          never n (record {
            at = ap (slice_get seen) (sym h) ∙ e;
            least = λ i d. ⊎_elim (λ less. absurd (below n i less d)) (λ le. le) (cases_lt i n);
          }))
          (cases_lt j n)

  record Sooner (x y : X) : Type 0 where
    left_seen : Contains seen x
    right_seen : Contains seen y
    sooner : (j k : ℕ) → FirstAt seen x j → FirstAt seen y k → j < k

  not_both : (x y : X) → Sooner x y → Sooner y x → ⊥
  not_both x y a b = some_first x a.left_seen (λ j f. some_first y a.right_seen (λ k g. let lt = a.sooner j k f g in let gt = b.sooner k j g f in omega arith))

  in_order : (found : List X) → AreFirstSights seen found → InOrder Sooner found
  in_order found s j k x y lt e d = record {
    left_seen = s.only x (there found j x e);
    right_seen = s.only y (there found k y d);
    sooner = λ a b f g. s.rising j k a b x y lt e d f g;
  }

  pub one_sights : (found other : List X) → AreFirstSights seen found → AreFirstSights seen other → found ≡ other
  one_sights found other s t = one_order Sooner not_both found other (in_order found s) (in_order other t) (λ x w. t.every x (s.only x w)) (λ x w. s.every x (t.only x w))

  -- the first places rise at least as fast as the places
  rises : (found : List X) → AreFirstSights seen found → (k : ℕ) (x : X) → slice_get found k ≡ Some x → ((j : ℕ) → FirstAt seen x j → k ≤ j → ⊥) → ⊥
  rises found s zero x e never = some_first x (s.only x (there found 0 x e)) (λ j f. never j f (omega arith))
  rises found s (suc k) y e never = elim (slice_get_cases found k).1 [
    | inl u ↦ rises found s k u.0 u.2 (λ i g le. some_first y (s.only y (there found (suc k) y e)) (λ j f.
        never j f (let lt = s.rising k (suc k) i j u.0 y (omega arith) u.2 e g f in omega (arith, lt, le))))
    | inr u ↦ let lt = slice_get_within found (suc k) y e in let ge = u.0 in omega (arith, lt, ge)
  ]

  pub sights_length : (found : List X) → AreFirstSights seen found → length found ≤ length seen
  sights_length found s = ⊎_elim
      (λ lt. absurd (elim (slice_get_cases found (length seen)).1 [
        | inl u ↦ rises found s (length seen) u.0 u.2 (λ j f le. let within = slice_get_within seen j u.0 f.at in let z : ⊥ = omega (arith, within, le) in z)
        | inr u ↦ let ge = u.0 in let z : ⊥ = omega (arith, lt, ge) in z
      ]))
      (λ le. le)
      (cases_lt (length seen) (length found))

-- ---- what comes of each by a function that keeps apart

module _ {X Y : Type 0} (h : X → Y) where
  some_is : (x y : Y) → Some x ≡ Some y → x ≡ y
  some_is x y e = cc

  some_none : (x : Y) → None ≡ Some x → ⊥
  some_none x e = cc

  -- what stands in the second list stands in the first at the same place
  mapped_at : (xs : List X) (k : ℕ) (y : Y) → slice_get (map h xs) k ≡ Some y → (x : X) × (slice_get xs k ≡ Some x) × (h x ≡ y)
  mapped_at xs k y e = elim (slice_get_cases xs k).1 [
    | inl u ↦ (u.0, u.2, some_is (h u.0) y (ap (option_map h) (sym u.2) ∙ sym (slice_get-map h xs k) ∙ e))
    | inr u ↦ absurd (some_none y (ap (option_map h) (sym u.1) ∙ sym (slice_get-map h xs k) ∙ e))
  ]

  at_mapped : (xs : List X) (k : ℕ) (x : X) → slice_get xs k ≡ Some x → slice_get (map h xs) k ≡ Some (h x)
  at_mapped xs k x e = slice_get-map h xs k ∙ ap (option_map h) e

  pub mapped_in : (xs : List X) (y : Y) → Contains (map h xs) y → (x : X) × Contains xs x × (h x ≡ y)
  mapped_in xs y w = let r = mapped_at xs w.0 y (at_of (map h xs) y w) in (r.0, there xs w.0 r.0 r.1, r.2)

  in_mapped : (xs : List X) (x : X) → Contains xs x → Contains (map h xs) (h x)
  in_mapped xs x w = there (map h xs) w.0 (h x) (at_mapped xs w.0 x (at_of xs x w))

module _ {X Y : Type 0} (h : X → Y) (apart : (x y : X) → h x ≡ h y → x ≡ y) where
  first_back : (seen : List X) (x : X) (j : ℕ) → FirstAt (map h seen) (h x) j → FirstAt seen x j
  first_back seen x j f = let r = mapped_at h seen j (h x) f.at in record {
    at = r.1 ∙ ap Some (apart r.0 x r.2);
    least = λ i e. f.least i (at_mapped h seen i x e);
  }

  pub sights_mapped : (seen found : List X) → AreFirstSights seen found → AreFirstSights (map h seen) (map h found)
  sights_mapped seen found s = record {
    every = λ y w. let r = mapped_in h seen y w in subst (λ (z : Y). Contains (map h found) z) r.2 (in_mapped h found r.0 (s.every r.0 r.1));
    only = λ y w. let r = mapped_in h found y w in subst (λ (z : Y). Contains (map h seen) z) r.2 (in_mapped h seen r.0 (s.only r.0 r.1));
    rising = λ m n j k x y lt e d f g.
        let p = mapped_at h found m x e in
        let q = mapped_at h found n y d in
        s.rising m n j k p.0 q.0 lt p.1 q.1
        (first_back seen p.0 j (subst (λ (z : Y). FirstAt (map h seen) z j) (sym p.2) f))
        (first_back seen q.0 k (subst (λ (z : Y). FirstAt (map h seen) z k) (sym q.2) g));
  }
