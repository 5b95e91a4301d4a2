-- What stands earlier too can be left out of a list: the first sights stay the same.
use Rattle.std.proofs.Common.{◌≡◌, ◌∙◌, sym, ap, refl, ℕ, suc, ◌+◌, ◌-◌, ◌<◌, ◌≤◌, ◌⊎◌, inl, inr, ⊎_elim, List, [], ◌∷◌, ◌++◌, length, slice_get, Some, arith}
use Rattle.std.specs.List.{Contains}
use Rattle.std.proofs.lemmas.Bool.{cases_lt}
use Rattle.std.proofs.lemmas.List.Elements.{Contains-append_left, Contains-append_right, Contains-append_cases}
use Rattle.ts_base.proofs.PlaceLemmas.{in_prefix}
use Rattle.ts_rules.specs.FirstSights.{FirstAt, AreFirstSights}
use Rattle.ts_productions.proofs.MemberLemmas.{there, at_of}

-- a place behind the first list
past_prefix : {X : Type 0} (xs ys : List X) (k : ℕ) → slice_get (xs ++ ys) (length xs + k) ≡ slice_get ys k
past_prefix [] ys k = ap (slice_get ys) (let e : 0 + k ≡ k = omega arith in e)
past_prefix (x ∷ xs) ys k = ap (slice_get (x ∷ (xs ++ ys))) (let e : suc (length xs) + k ≡ suc (length xs + k) = omega arith in e) ∙ past_prefix xs ys k

behind : {X : Type 0} (xs ys : List X) (k : ℕ) → length xs ≤ k → slice_get (xs ++ ys) k ≡ slice_get ys (k - length xs)
behind xs ys k ge = ap (slice_get (xs ++ ys)) (let e : k ≡ length xs + (k - length xs) = omega (arith, ge) in e) ∙ past_prefix xs ys (k - length xs)

module _ {X : Type 0} (c d b : List X) (again : (z : X) → Contains d z → Contains c z) where
  abbrev Full : List X
  Full = c ++ (d ++ b)

  abbrev Less : List X
  Less = c ++ b

  in_rest : (x : X) → Contains (d ++ b) x → Contains Less x
  in_rest x w = ⊎_elim (λ v. Contains-append_left c b x (again x v)) (λ v. Contains-append_right c b x v) (Contains-append_cases d b x w)

  to_less : (x : X) → Contains Full x → Contains Less x
  to_less x w = ⊎_elim (λ v. Contains-append_left c b x v) (λ v. in_rest x v) (Contains-append_cases c (d ++ b) x w)

  to_full : (x : X) → Contains Less x → Contains Full x
  to_full x w = ⊎_elim (λ v. Contains-append_left c (d ++ b) x v) (λ v. Contains-append_right c (d ++ b) x (Contains-append_right d b x v)) (Contains-append_cases c b x w)

  -- the places of what stays, in both lists
  abbrev Moves : ℕ → ℕ → Type 0
  Moves j i = ((j < length c) × (i ≡ j)) ⊎ ((length c + length d ≤ j) × (j ≡ i + length d))

  front : (i : ℕ) → i < length c → slice_get Less i ≡ slice_get Full i
  front i lt = in_prefix c b i lt ∙ sym (in_prefix c (d ++ b) i lt)

  back : (i : ℕ) → length c ≤ i → slice_get Full (i + length d) ≡ slice_get Less i
  back i ge =
      behind c (d ++ b) (i + length d) (omega (arith, ge))
      ∙ ap (slice_get (d ++ b)) (let e : (i + length d) - length c ≡ length d + (i - length c) = omega (arith, ge) in e)
      ∙ past_prefix d b (i - length c)
      ∙ sym (behind c b i ge)

  moved : (x : X) (j : ℕ) → FirstAt Full x j → (i : ℕ) × FirstAt Less x i × Moves j i
  moved x j f = ⊎_elim early late (cases_lt j (length c))
    where
      early : j < length c → (i : ℕ) × FirstAt Less x i × Moves j i
      early lt = (
        j,
        record {
          at = front j lt ∙ f.at;
          least = λ k e. ⊎_elim (λ low. f.least k (sym (front k low) ∙ e)) (λ high. omega (arith, lt, high)) (cases_lt k (length c));
        },
        inl (lt, refl),
      )

      gone : length c ≤ j → j < length c + length d → ⊥
      gone ge lt =
          let e : slice_get d (j - length c) ≡ Some x = sym (in_prefix d b (j - length c) (omega (arith, ge, lt))) ∙ sym (behind c (d ++ b) j ge) ∙ f.at in
          let w = again x (there d (j - length c) x e) in
          let low = w.1 in
          let first = f.least w.0 (in_prefix c (d ++ b) w.0 w.1 ∙ at_of c x w) in
          let z : ⊥ = omega (arith, ge, low, first) in
          z

      stays : length c + length d ≤ j → (i : ℕ) × FirstAt Less x i × Moves j i
      stays ge =
          let i : ℕ = j - length d in
          let is : j ≡ i + length d = omega (arith, ge) in
          let high : length c ≤ i = omega (arith, ge) in (
            i,
            record {
              at = sym (back i high) ∙ ap (slice_get Full) (sym is) ∙ f.at;
              least = λ k e. ⊎_elim
                  (λ low. let first = f.least k (sym (front k low) ∙ e) in omega (arith, ge, low, first))
                  (λ more. let first = f.least (k + length d) (back k more ∙ e) in omega (arith, is, first))
                  (cases_lt k (length c));
            },
            inr (ge, is),
          )

      late : length c ≤ j → (i : ℕ) × FirstAt Less x i × Moves j i
      late ge = ⊎_elim (λ lt. absurd (gone ge lt)) stays (cases_lt j (length c + length d))

  in_order : (j k i l : ℕ) → Moves j i → Moves k l → i < l → j < k
  in_order j k i l (inl a) (inl b) lt = let e = a.1 in let f = b.1 in omega (arith, e, f, lt)
  in_order j k i l (inl a) (inr b) lt = let e = a.0 in let f = b.0 in omega (arith, e, f)
  in_order j k i l (inr a) (inl b) lt = let e = a.0 in let f = a.1 in let h = b.0 in let m = b.1 in omega (arith, e, f, h, m, lt)
  in_order j k i l (inr a) (inr b) lt = let e = a.1 in let f = b.1 in omega (arith, e, f, lt)

  pub sights_drop : (found : List X) → AreFirstSights Less found → AreFirstSights Full found
  sights_drop found h = record {
    every = λ x w. h.every x (to_less x w);
    only = λ x w. to_full x (h.only x w);
    rising = λ m n j k x y lt e f one two.
        let p = moved x j one in
        let q = moved y k two in
        in_order j k p.0 q.0 p.2 q.2 (h.rising m n p.0 q.0 x y lt e f p.1 q.1);
  }
