-- How many turns passes took together, and how often each.
use Rattle.std.proofs.Common.{◌≡◌, sym, refl, subst, ℕ, zero, suc, ◌+◌, ◌*◌, ◌<◌, ◌≤◌, ◌==◌, nat_eq, nat_lt, if◌then◌else◌, false, Bool, ⊎_elim, List, [], ◌∷◌, ◌++◌, length, flat_map, slice_get, Some, None, All, arith}
use Rattle.std.proofs.lemmas.Bool.Decides.{nat_tests, eqb_tells}
use Rattle.std.proofs.lemmas.List.{length-append}
use Rattle.std.proofs.lemmas.List.Elements.{All-head, All-tail}
use Rattle.ts_shelf.specs.declared.view.Knowledge.{Knowledge}
use Rattle.ts_shelf.specs.Entries.{occurrences}
use Rattle.spec_clients.specs.Served.{taken_until}

-- ---- one list

pub occurs_append : (x : ℕ) (ys zs : List ℕ) → occurrences x (ys ++ zs) ≡ occurrences x ys + occurrences x zs
occurs_append x [] zs = omega arith
occurs_append x (y ∷ ys) zs = let h = occurs_append x ys zs in omega arith

pub until_append : (t : ℕ) (ys zs : List ℕ) → taken_until t (ys ++ zs) ≡ taken_until t ys + taken_until t zs
until_append t [] zs = omega arith
until_append t (y ∷ ys) zs = let h = until_append t ys zs in omega arith

until_zero : (xs : List ℕ) → taken_until 0 xs ≡ occurrences 0 xs
until_zero [] = refl
until_zero (x ∷ xs) =
    let h = until_zero xs in
    let a : ◌≡◌ {A = ℕ} (if nat_lt 0 x then 0 else 1) (if 0 == x then 1 else 0) = grind (arith, nat_tests) in
    omega arith

until_next : (t : ℕ) (xs : List ℕ) → taken_until (suc t) xs ≡ taken_until t xs + occurrences (suc t) xs
until_next t [] = refl
until_next t (x ∷ xs) =
    let h = until_next t xs in
    let a : ◌≡◌ {A = ℕ} (if nat_lt (suc t) x then 0 else 1) ((if nat_lt t x then 0 else 1) + (if suc t == x then 1 else 0)) = grind (arith, nat_tests) in
    omega arith

-- where no turn stands twice, there are no more up to one than it and those below it
pub until_once : (t : ℕ) (xs : List ℕ) → ((x : ℕ) → occurrences x xs ≤ 1) → taken_until t xs ≤ suc t
until_once zero xs once = let a = until_zero xs in let b = once 0 in omega arith
until_once (suc t) xs once = let h = until_once t xs once in let a = until_next t xs in let b = once (suc t) in omega arith

-- what stands in a list that is below a bound is below it
pub present_below : (t x : ℕ) (xs : List ℕ) → All (λ (y : ℕ). y < t) xs → 0 < occurrences x xs → x < t
present_below t x [] all here = absurd (let f : ⊥ = omega (arith, here) in f)
present_below t x (y ∷ ys) all here = ⊎_elim
    (λ w. let e : x ≡ y = w.1 in let a : y < t = All-head (λ (z : ℕ). z < t) y ys all in omega (arith, e, a))
    (λ w.
    let more : 0 < (if nat_eq x y then 1 else 0) + occurrences x ys = here in
    let rest : 0 < (if false then 1 else 0) + occurrences x ys = subst (λ (b : Bool). 0 < (if b then 1 else 0) + occurrences x ys) w.0 more in
    present_below t x ys (All-tail (λ (z : ℕ). z < t) y ys all) (omega (arith, rest)))
    (eqb_tells x y)

mul_next : (n m : ℕ) → suc n * m ≡ m + n * m
mul_next n m = omega arith

-- ---- the lists of several passes

module _ {S I : Type 0} where
  abbrev pub all_taken : List (Knowledge S I) → List ℕ
  all_taken passes = flat_map (λ (o : Knowledge S I). o.taken) passes

  pub one_part : (x : ℕ) (passes : List (Knowledge S I)) (c : ℕ) (k : Knowledge S I) → slice_get passes c ≡ Some k
      → occurrences x k.taken ≤ occurrences x (all_taken passes)
  one_part x [] c k is = absurd (let f : None ≡ Some k = is in cc)
  one_part x (o ∷ passes) zero k is =
      let same : o ≡ k = (let f : Some o ≡ Some k = is in cc) in
      let sum = occurs_append x o.taken (all_taken passes) in
      subst (λ (p : Knowledge S I). occurrences x p.taken ≤ occurrences x (o.taken ++ all_taken passes)) same (omega (arith, sum))
  one_part x (o ∷ passes) (suc c) k is =
      let h = one_part x passes c k is in
      let sum = occurs_append x o.taken (all_taken passes) in
      omega (arith, h, sum)

  -- what two passes both took stands twice among all
  pub two_parts : (x : ℕ) (passes : List (Knowledge S I)) (c d : ℕ) (k l : Knowledge S I) → c < d
      → slice_get passes c ≡ Some k → slice_get passes d ≡ Some l → 0 < occurrences x k.taken → 0 < occurrences x l.taken
      → 2 ≤ occurrences x (all_taken passes)
  two_parts x [] c d k l lt a b here there = absurd (let f : None ≡ Some k = a in cc)
  two_parts x (o ∷ passes) zero zero k l lt a b here there = absurd (let f : ⊥ = omega (arith, lt) in f)
  two_parts x (o ∷ passes) zero (suc d) k l lt a b here there =
      let same : o ≡ k = (let f : Some o ≡ Some k = a in cc) in
      let one : 0 < occurrences x o.taken = subst (λ (p : Knowledge S I). 0 < occurrences x p.taken) (sym same) here in
      let more = one_part x passes d l b in
      let sum = occurs_append x o.taken (all_taken passes) in
      omega (arith, one, more, sum, there)
  two_parts x (o ∷ passes) (suc c) zero k l lt a b here there = absurd (let f : ⊥ = omega (arith, lt) in f)
  two_parts x (o ∷ passes) (suc c) (suc d) k l lt a b here there =
      let h = two_parts x passes c d k l (omega (arith, lt)) a b here there in
      let sum = occurs_append x o.taken (all_taken passes) in
      omega (arith, h, sum)

  -- a pass that took the turn
  pub record Took (x : ℕ) (passes : List (Knowledge S I)) : Type 0 where
    pub client : ℕ
    pub pass : Knowledge S I
    pub is : slice_get passes client ≡ Some pass
    pub here : 0 < occurrences x pass.taken

  later_took : (x : ℕ) (o : Knowledge S I) (passes : List (Knowledge S I)) → Took x passes → Took x (o ∷ passes)
  later_took x o passes w = record { client = suc w.client; pass = w.pass; is = w.is; here = w.here }

  -- each turn among all was taken by one
  pub taker : (x : ℕ) (passes : List (Knowledge S I)) → 0 < occurrences x (all_taken passes) → Took x passes
  taker x [] here = absurd (let f : ⊥ = omega (arith, here) in f)
  taker x (o ∷ passes) here = by (occurrences x o.taken) refl (taker x passes)
    where
      by : (n : ℕ) → occurrences x o.taken ≡ n → (0 < occurrences x (all_taken passes) → Took x passes) → Took x (o ∷ passes)
      by zero is rest = later_took x o passes (rest (let sum = occurs_append x o.taken (all_taken passes) in omega (arith, sum, is, here)))
      by (suc n) is rest = record { client = 0; pass = o; is = refl; here = omega (arith, is) }

  -- so many turns at most
  pub few_taken : (most : ℕ) (passes : List (Knowledge S I)) → ((c : ℕ) (k : Knowledge S I) → slice_get passes c ≡ Some k → length k.taken ≤ most)
      → length (all_taken passes) ≤ length passes * most
  few_taken most [] each = omega arith
  few_taken most (o ∷ passes) each =
      let first = each 0 o refl in
      let h = few_taken most passes (λ c k is. each (suc c) k is) in
      let sum = length-append o.taken (all_taken passes) in
      let mul : suc (length passes) * most ≡ most + length passes * most = mul_next (length passes) most in
      omega (arith, first, h, sum, mul)
