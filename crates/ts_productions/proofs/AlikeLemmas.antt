-- Numbers that are the same up to a bound.
use Rattle.std.proofs.Common.{◌≡◌, ◌∙◌, ap, sym, arith, ℕ, zero, suc, ◌+◌, ◌*◌, ◌<◌, ◌≤◌, min, ◌⊎◌, inl, inr}
use Rattle.std.proofs.lemmas.Bool.{cases_lt}
use Rattle.std.proofs.Math.Nat.{le-mul_of_pos_right, mul_comm}

low : (m a b : ℕ) → a ≤ m → min m (min m a * b) ≡ min m (a * b)
low m a b h = let e : min m a ≡ a = omega arith in ap (λ (n : ℕ). min m (n * b)) e

grows : (a b : ℕ) → 0 < b → a ≤ a * b
grows a b h = le-mul_of_pos_right a h

high : (m a b : ℕ) → m < a → min m (min m a * b) ≡ min m (a * b)
high m a zero h = grind arith
high m a (suc b) h =
    let e : min m a ≡ m = omega arith in
    let one : m ≤ m * suc b = grows m (suc b) (omega arith) in
    let two : a ≤ a * suc b = grows a (suc b) (omega arith) in
    ap (λ (n : ℕ). min m (n * suc b)) e ∙ omega arith

by : (m a b : ℕ) → (m < a) ⊎ (a ≤ m) → min m (min m a * b) ≡ min m (a * b)
by m a b (inl h) = high m a b h
by m a b (inr h) = low m a b h

capped_left : (m a b : ℕ) → min m (min m a * b) ≡ min m (a * b)
capped_left m a b = by m a b (cases_lt m a)

capped_right : (m a b : ℕ) → min m (a * min m b) ≡ min m (a * b)
capped_right m a b = ap (min m) (mul_comm a (min m b)) ∙ capped_left m b a ∙ ap (min m) (mul_comm b a)

-- the same up to the bound
abbrev pub Alike : ℕ → ℕ → ℕ → Type 0
Alike m a b = min m a ≡ min m b

pub alike_cap : (m a : ℕ) → Alike m (min m a) a
alike_cap m a = omega arith

pub alike_times : (m a b c d : ℕ) → Alike m a b → Alike m c d → Alike m (a * c) (b * d)
alike_times m a b c d e f =
    sym (capped_left m a c) ∙ ap (λ (n : ℕ). min m (n * c)) e ∙ capped_left m b c
    ∙ sym (capped_right m b c) ∙ ap (λ (n : ℕ). min m (b * n)) f ∙ capped_right m b d

pub alike_plus : (m a b c d : ℕ) → Alike m a b → Alike m c d → Alike m (a + c) (b + d)
alike_plus m a b c d e f = omega arith
