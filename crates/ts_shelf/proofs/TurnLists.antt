-- Lists of turns: how often a turn stands there, and how long a list is that has each turn below a
-- number once.
use Rattle.std.proofs.Common.{◌≡◌, ◌∙◌, sym, refl, ℕ, zero, suc, ◌+◌, ◌<◌, ◌≤◌, ◌==◌, if◌then◌else◌, List, [], ◌∷◌, ◌++◌, length, arith}
use Rattle.std.proofs.lemmas.Bool.Decides.{nat_tests}
use Rattle.ts_shelf.specs.Entries.{occurrences, once_below}

pub occurrences_push : (x : ℕ) (ys : List ℕ) (y : ℕ)
    → occurrences x (ys ++ y ∷ []) ≡ occurrences x ys + (if x == y then 1 else 0)
occurrences_push x [] y = omega arith
occurrences_push x (z ∷ zs) y = let h = occurrences_push x zs y in omega arith

pub one_more : (x t : ℕ) → once_below x (t + 1) ≡ once_below x t + (if x == t then 1 else 0)
one_more x t = grind (arith, nat_tests)

pub occurrences_append : (x : ℕ) (ys zs : List ℕ)
    → occurrences x (ys ++ zs) ≡ occurrences x ys + occurrences x zs
occurrences_append x [] zs = omega arith
occurrences_append x (y ∷ ys) zs = let h = occurrences_append x ys zs in omega arith

pub once_most : (x t : ℕ) → once_below x t ≤ 1
once_most x t = grind (arith, nat_tests)

-- how many turns of the list are below t
abbrev counted_below : ℕ → List ℕ → ℕ
counted_below zero xs = 0
counted_below (suc t) xs = counted_below t xs + occurrences t xs

counted_none : (t : ℕ) → counted_below t [] ≡ 0
counted_none zero = refl
counted_none (suc t) = let h = counted_none t in omega arith

either_way : (x y : ℕ) → ◌≡◌ {A = ℕ} (if x == y then 1 else 0) (if y == x then 1 else 0)
either_way x y = grind (arith, nat_tests)

counted_more : (t y : ℕ) (ys : List ℕ)
    → counted_below t (y ∷ ys) ≡ counted_below t ys + once_below y t
counted_more zero y ys = grind (arith, nat_tests)
counted_more (suc t) y ys =
    let h = counted_more t y ys in
    let a : once_below y (suc t) ≡ once_below y t + (if y == t then 1 else 0) =
    grind (arith, nat_tests) in
    let b = either_way t y in
    omega arith

counted_each : (t : ℕ) (xs : List ℕ) → ((x : ℕ) → x < t → occurrences x xs ≡ 1)
    → counted_below t xs ≡ t
counted_each zero xs each = refl
counted_each (suc t) xs each =
    let h = counted_each t xs (λ x lt. each x (omega arith)) in
    let a = each t (omega arith) in
    omega arith

counted_all : (t : ℕ) (xs : List ℕ) → ((x : ℕ) → 0 < occurrences x xs → once_below x t ≡ 1)
    → counted_below t xs ≡ length xs
counted_all t [] below = counted_none t
counted_all t (y ∷ ys) below =
    let h = counted_all t ys (λ x more. below x (omega arith)) in
    let a = counted_more t y ys in
    let b = below y (here y ys) in
    omega arith
  where
    here : (y : ℕ) (ys : List ℕ) → 0 < occurrences y (y ∷ ys)
    here y ys = grind (arith, nat_tests)

-- where each turn below t is there once, and no other is there, the list is as long as t
pub once_counts : (xs : List ℕ) (t : ℕ) → ((x : ℕ) → occurrences x xs ≡ once_below x t)
    → length xs ≡ t
once_counts xs t once =
    sym (counted_all t xs (λ x more. let a = once x in let b = once_most x t in omega arith))
    ∙ counted_each t xs (λ x lt. once x ∙ below x lt)
  where
    below : (x : ℕ) → x < t → once_below x t ≡ 1
    below x lt = grind (arith, nat_tests)
