-- Runs of characters, and the numbers that digits write.
use Rattle.std.proofs.Common.{◌≡◌, ℕ, zero, suc, ◌+◌, ◌-◌, ◌*◌, ◌<◌, ◌≤◌, Bool, true, false, nat_lt, List, [], ◌∷◌, ◌++◌, length, take, drop, fold, get_or, refl, sym, ap, subst, ◌∙◌, arith, inl, inr, ◌⊎◌, take_all, length-take, get_or-take}
use Rattle.std.specs.List.{prefix_len}
use Rattle.std.specs.Char.{digit_value}
use Rattle.std.proofs.lemmas.Bool.{cases_lt, cond-true, cond-false, lt-ltb, le-ltb, ltb-true}
use Rattle.std.proofs.lemmas.List.{take_more}
use Rattle.ts_pattern.specs.Characters.{Text, run, is_decimal, value, padded_digit, AreDecimal}

-- ---- runs

bool_cases : (b : Bool) → (b ≡ true) ⊎ (b ≡ false)
bool_cases true = inl refl
bool_cases false = inr refl

below_zero : (k : ℕ) → k < 0 → ⊥
below_zero k lt = omega (arith, lt)

pub run_passes : (p : ℕ → Bool) (xs : List ℕ) (k : ℕ) → k < prefix_len p xs → p (get_or xs k 0) ≡ true
run_passes p [] k lt = absurd (below_zero k lt)
run_passes p (x ∷ xs) zero lt = elim (bool_cases (p x)) [
  | inl passes ↦ passes
  | inr fails ↦ absurd (below_zero 0 (subst (λ (n : ℕ). 0 < n) (cond-false _ _ _ fails) lt))
]
run_passes p (x ∷ xs) (suc k) lt = elim (bool_cases (p x)) [
  | inl passes ↦
      let more : suc k < 1 + prefix_len p xs = subst (λ (n : ℕ). suc k < n) (cond-true _ _ _ passes) lt in
      run_passes p xs k (omega (arith, more))
  | inr fails ↦ absurd (below_zero (suc k) (subst (λ (n : ℕ). suc k < n) (cond-false _ _ _ fails) lt))
]

run_within : (p : ℕ → Bool) (xs : List ℕ) → prefix_len p xs ≤ length xs
run_within p [] = omega arith
run_within p (x ∷ xs) = elim (bool_cases (p x)) [
  | inl passes ↦ let e : prefix_len p (x ∷ xs) ≡ 1 + prefix_len p xs = cond-true _ _ _ passes in let h = run_within p xs in omega (arith, e, h)
  | inr fails ↦ let e : prefix_len p (x ∷ xs) ≡ 0 = cond-false _ _ _ fails in omega (arith, e)
]

-- the digits of a run are decimal
pub run_decimal : (w : Text) (i n : ℕ) → n ≡ run is_decimal w i → AreDecimal (take n (drop i w))
run_decimal w i n e k lt =
    let within = run_within is_decimal (drop i w) in
    let short = length-take n (drop i w) in
    let inside : k < run is_decimal w i = omega (arith, e, lt, short) in
    let same = get_or-take n (drop i w) k 0 (omega (arith, e, inside)) in
    subst (λ (c : ℕ). digit_value c < 10) (sym same) (ltb-true _ _ (run_passes is_decimal (drop i w) k inside))

-- ---- numbers

-- the number so far and one more digit
abbrev pub next_value : ℕ → ℕ → ℕ → ℕ
next_value radix n d = n * radix + digit_value d

fold_push : (radix n : ℕ) (xs : List ℕ) (x : ℕ) → fold (next_value radix) n (xs ++ x ∷ []) ≡ next_value radix (fold (next_value radix) n xs) x
fold_push radix n [] x = refl
fold_push radix n (y ∷ ys) x = fold_push radix (next_value radix n y) ys x

pub value_more : (radix : ℕ) (xs : List ℕ) (i : ℕ) → i < length xs → value radix (take (i + 1) xs) ≡ value radix (take i xs) * radix + digit_value (get_or xs i 0)
value_more radix xs i lt = ap (value radix) (take_more xs i 0 lt) ∙ fold_push radix 0 (take i xs) (get_or xs i 0)

-- ---- two numbers of one width

abbrev pub zeros : Text → ℕ → ℕ
zeros digits width = width - length digits

-- the number that the first i digits write, zeros in front
abbrev pub padded_value : Text → ℕ → ℕ → ℕ
padded_value digits width i = value 10 (take (i - zeros digits width) digits)

pub padded_more : (digits : Text) (width i : ℕ) → length digits ≤ width → i < width →
    padded_value digits width (i + 1) ≡ padded_value digits width i * 10 + padded_digit digits width i
padded_more digits width i room lt = elim (cases_lt i (zeros digits width)) [
  | inl front ↦
      let a : i + 1 - zeros digits width ≡ 0 = omega (arith, front) in
      let b : i - zeros digits width ≡ 0 = omega (arith, front) in
      let d : padded_digit digits width i ≡ 0 = cond-true _ _ _ (lt-ltb i (zeros digits width) front) in
      let l : padded_value digits width (i + 1) ≡ 0 = ap (λ (n : ℕ). value 10 (take n digits)) a in
      let r : padded_value digits width i ≡ 0 = ap (λ (n : ℕ). value 10 (take n digits)) b in
      omega (arith, l, r, d)
  | inr within ↦
      let a : i + 1 - zeros digits width ≡ (i - zeros digits width) + 1 = omega (arith, within) in
      let d : padded_digit digits width i ≡ digit_value (get_or digits (i - zeros digits width) 0) = cond-false _ _ _ (le-ltb i (zeros digits width) within) in
      ap (λ (n : ℕ). value 10 (take n digits)) a
      ∙ value_more 10 digits (i - zeros digits width) (omega (arith, room, lt, within))
      ∙ ap (λ (n : ℕ). padded_value digits width i * 10 + n) (sym d)
]

pub padded_below : (digits : Text) (width i : ℕ) → length digits ≤ width → i < width → AreDecimal digits → padded_digit digits width i < 10
padded_below digits width i room lt h = elim (cases_lt i (zeros digits width)) [
  | inl front ↦ let d : padded_digit digits width i ≡ 0 = cond-true _ _ _ (lt-ltb i (zeros digits width) front) in omega (arith, d)
  | inr within ↦
      let d : padded_digit digits width i ≡ digit_value (get_or digits (i - zeros digits width) 0) = cond-false _ _ _ (le-ltb i (zeros digits width) within) in
      let lt10 = h (i - zeros digits width) (omega (arith, room, lt, within)) in
      omega (arith, d, lt10)
]

pub padded_whole : (digits : Text) (width : ℕ) → length digits ≤ width → padded_value digits width width ≡ value 10 digits
padded_whole digits width room =
    let a : width - zeros digits width ≡ length digits = omega (arith, room) in
    ap (λ (n : ℕ). value 10 (take n digits)) a ∙ ap (value 10) (take_all (length digits) digits (omega arith))

-- what is below stays below, whatever digits follow
pub stays_below : (n : ℕ) (xs ys : Text) (width i : ℕ) → length xs ≤ width → length ys ≤ width → AreDecimal xs → i + n ≡ width →
    padded_value xs width i < padded_value ys width i → value 10 xs < value 10 ys
stays_below zero xs ys width i hx hy d e lt =
    let here : i ≡ width = omega (arith, e) in
    let a = ap (padded_value xs width) here ∙ padded_whole xs width hx in
    let b = ap (padded_value ys width) here ∙ padded_whole ys width hy in
    omega (arith, a, b, lt)
stays_below (suc n) xs ys width i hx hy d e lt =
    let within : i < width = omega (arith, e) in
    let a = padded_more xs width i hx within in
    let b = padded_more ys width i hy within in
    let small = padded_below xs width i hx within d in
    stays_below n xs ys width (i + 1) hx hy d (omega (arith, e)) (omega (arith, a, b, lt, small))

-- the first place where two numbers differ tells which is below
pub differs_below : (xs ys : Text) (width i : ℕ) → length xs ≤ width → length ys ≤ width → AreDecimal xs → i < width →
    padded_value xs width i ≡ padded_value ys width i → padded_digit xs width i < padded_digit ys width i → value 10 xs < value 10 ys
differs_below xs ys width i hx hy d lt e less =
    let a = padded_more xs width i hx lt in
    let b = padded_more ys width i hy lt in
    stays_below (width - (i + 1)) xs ys width (i + 1) hx hy d (omega (arith, lt)) (omega (arith, a, b, e, less))

pub told : (xs ys : Text) (width i : ℕ) → length xs ≤ width → length ys ≤ width → AreDecimal xs → AreDecimal ys → i < width →
    padded_value xs width i ≡ padded_value ys width i → (padded_digit xs width i ≡ padded_digit ys width i → ⊥) →
    nat_lt (padded_digit xs width i) (padded_digit ys width i) ≡ nat_lt (value 10 xs) (value 10 ys)
told xs ys width i hx hy dx dy lt e ne = elim (cases_lt (padded_digit xs width i) (padded_digit ys width i)) [
  | inl less ↦ lt-ltb _ _ less ∙ sym (lt-ltb _ _ (differs_below xs ys width i hx hy dx lt e less))
  | inr ge ↦ elim (cases_lt (padded_digit ys width i) (padded_digit xs width i)) [
    | inl more ↦
        let above = differs_below ys xs width i hy hx dy lt (sym e) more in
        le-ltb _ _ ge ∙ sym (le-ltb _ _ (omega (arith, above)))
    | inr le ↦ absurd (ne (omega (arith, ge, le)))
  ]
]

pub same_below : (xs ys : Text) (width i : ℕ) → i ≡ width → length xs ≤ width → length ys ≤ width →
    padded_value xs width i ≡ padded_value ys width i → false ≡ nat_lt (value 10 xs) (value 10 ys)
same_below xs ys width i h hx hy e =
    let a = ap (padded_value xs width) h ∙ padded_whole xs width hx in
    let b = ap (padded_value ys width) h ∙ padded_whole ys width hy in
    sym (le-ltb _ _ (omega (arith, a, b, e)))

pub padded_start : (xs ys : Text) (width : ℕ) → length xs ≤ width → length ys ≤ width → padded_value xs width 0 ≡ padded_value ys width 0
padded_start xs ys width hx hy =
    let a : 0 - zeros xs width ≡ 0 = omega arith in
    let b : 0 - zeros ys width ≡ 0 = omega arith in
    ap (λ (n : ℕ). value 10 (take n xs)) a ∙ sym (ap (λ (n : ℕ). value 10 (take n ys)) b)

pub padded_next : (xs ys : Text) (width i : ℕ) → length xs ≤ width → length ys ≤ width → i < width → padded_value xs width i ≡ padded_value ys width i →
    padded_digit xs width i ≡ padded_digit ys width i → padded_value xs width (i + 1) ≡ padded_value ys width (i + 1)
padded_next xs ys width i hx hy lt e d =
    let a = padded_more xs width i hx lt in
    let b = padded_more ys width i hy lt in
    omega (arith, a, b, e, d)
