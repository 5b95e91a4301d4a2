-- The numerals of clients, byte by byte.
use Rattle.std.proofs.Common.{◌≡◌, ◌∙◌, sym, ap, subst, refl, ℕ, ◌+◌, ◌-◌, ◌/◌, ◌%◌, ◌<◌, ◌≤◌, ◌⊎◌, inl, inr, [], ◌∷◌, ◌++◌, length, slice_index_or, arith}
use Rattle.std.proofs.lemmas.Bool.{cases_lt}
use Rattle.std.proofs.lemmas.Fmt.{decimal_digit, decimal_step}
use Rattle.std.specs.Fmt.{decimal}
use Rattle.ts_base.specs.Bytes.{Bytes}

pub two_digits : (n : ℕ) → 10 ≤ n → n < 16 → decimal n ≡ 49 ∷ (38 + n) ∷ []
two_digits n low high =
    let tens : n / 10 ≡ 1 = omega (arith, low, high) in
    let ones : 48 + n % 10 ≡ 38 + n = omega (arith, low, high) in
    decimal_step n low (omega (arith, high)) ∙ ap (λ (k : ℕ). decimal k ++ (48 + n % 10) ∷ []) tens ∙ ap (λ (k : ℕ). decimal 1 ++ k ∷ []) ones ∙ ap (λ (ds : Bytes). ds ++ (38 + n) ∷ []) (decimal_digit 1 (omega arith))

-- ---- bytes that are a numeral

pub reads_one : (bs : Bytes) (n : ℕ) → length bs ≡ 1 → 48 ≤ slice_index_or bs 0 0 → slice_index_or bs 0 0 ≤ 57 → n ≡ slice_index_or bs 0 0 - 48 → bs ≡ decimal n
reads_one [] n len low high is = absurd (omega arith)
reads_one (x ∷ []) n len low high is =
    let value : 48 + n ≡ x = omega (arith, low, is) in
    ap (λ (k : ℕ). k ∷ []) (sym value) ∙ sym (decimal_digit n (omega (arith, low, high, is)))
reads_one (x ∷ y ∷ bs) n len low high is = absurd (omega arith)

pub reads_two : (bs : Bytes) (n : ℕ) → length bs ≡ 2 → slice_index_or bs 0 0 ≡ 49 → 48 ≤ slice_index_or bs 1 0 → slice_index_or bs 1 0 ≤ 53 → n ≡ slice_index_or bs 1 0 - 48 → bs ≡ decimal (10 + n)
reads_two [] n len one low high is = absurd (omega arith)
reads_two (x ∷ []) n len one low high is = absurd (omega arith)
reads_two (x ∷ y ∷ []) n len one low high is =
    let value : y ≡ 38 + (10 + n) = omega (arith, low, is) in
    ap (λ (k : ℕ). k ∷ y ∷ []) one ∙ ap (λ (k : ℕ). 49 ∷ k ∷ []) value ∙ sym (two_digits (10 + n) (omega arith) (omega (arith, low, high, is)))
reads_two (x ∷ y ∷ z ∷ bs) n len one low high is = absurd (omega arith)

-- ---- what a numeral looks like

-- one digit
pub record IsOne (bs : Bytes) : Type 0 where
  pub len : length bs ≡ 1
  pub low : 48 ≤ slice_index_or bs 0 0
  pub high : slice_index_or bs 0 0 ≤ 57

-- a one and a digit
pub record IsTwo (bs : Bytes) : Type 0 where
  pub len : length bs ≡ 2
  pub one : slice_index_or bs 0 0 ≡ 49
  pub low : 48 ≤ slice_index_or bs 1 0
  pub high : slice_index_or bs 1 0 ≤ 53

one_of : (n : ℕ) → n < 10 → IsOne ((48 + n) ∷ [])
one_of n h = record { len = refl; low = omega arith; high = omega (arith, h) }

two_of : (n : ℕ) → 10 ≤ n → n < 16 → IsTwo (49 ∷ (38 + n) ∷ [])
two_of n low high = record { len = refl; one = refl; low = omega (arith, low); high = omega (arith, high) }

pub numeral_is : (bs : Bytes) (n : ℕ) → n < 16 → bs ≡ decimal n → IsOne bs ⊎ IsTwo bs
numeral_is bs n h e = elim (cases_lt n 10) [
  | inl small ↦ inl (subst IsOne (sym (e ∙ decimal_digit n small)) (one_of n small))
  | inr big ↦ inr (subst IsTwo (sym (e ∙ two_digits n big h)) (two_of n big h))
]
