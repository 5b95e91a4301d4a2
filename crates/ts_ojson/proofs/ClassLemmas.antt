-- What the class of a byte, or the value of a digit, tells of it.
use Rattle.std.proofs.Common.{◌≡◌, ℕ, ◌<◌, ◌≤◌, ◌⊎◌, inl, inr, Bool, true, false, cond, ◌&&◌, ◌==◌, nat_le, Some, refl, ap, subst, ◌∙◌, arith}
use Rattle.std.proofs.lemmas.Bool.{eqb-true, eqb-false, leb-true, and_parts}
use Rattle.std.proofs.lemmas.Bool.Decides.{nat_tests}
use Rattle.ts_ojson.specs.declared.class.Class.{Class}
use Rattle.ts_ojson.specs.declared.class.Class.TheVariants as class
use Rattle.ts_ojson.specs.Number.{IsDigit}
use Rattle.ts_ojson.specs.Text.{IsBlank}
use Rattle.ts_ojson.specs.declared.part.Part.{Part}
use Rattle.ts_ojson.specs.declared.part.Part.TheVariants as part
use Rattle.std.specs.Char.{digit_value}
use Rattle.ts_ojson.specs.Machine.{class_of, part_next}

abbrev pub IsOf : Class → ℕ → Type 0
IsOf class.Blank b = IsBlank b
IsOf class.Quote b = b ≡ 34
IsOf class.Comma b = b ≡ 44
IsOf class.Colon b = b ≡ 58
IsOf class.OpenArray b = b ≡ 91
IsOf class.CloseArray b = b ≡ 93
IsOf class.OpenObject b = b ≡ 123
IsOf class.CloseObject b = b ≡ 125
IsOf class.Minus b = b ≡ 45
IsOf class.Plus b = b ≡ 43
IsOf class.Point b = b ≡ 46
IsOf class.Zero b = b ≡ 48
IsOf class.Digit b = (49 ≤ b) × (b ≤ 57)
IsOf class.Exponent b = (b ≡ 101) ⊎ (b ≡ 69)
IsOf class.LetterT b = b ≡ 116
IsOf class.LetterF b = b ≡ 102
IsOf class.LetterN b = b ≡ 110
IsOf class.Other b = Unit {0}

pick : (b : ℕ) (x y : Class) (t : Bool) → (t ≡ true → IsOf x b) → (t ≡ false → IsOf y b) → IsOf (cond t x y) b
pick b x y true f g = f refl
pick b x y false f g = g refl

is_of : (b : ℕ) → IsOf (class_of b) b
is_of b =
    let by = λ (n : ℕ) (e : (b == n) ≡ true). eqb-true b n e in
    pick b _ _ (b == 32) (λ e. inl (by 32 e)) (λ _.
    pick b _ _ (b == 9) (λ e. inr (inl (by 9 e))) (λ _.
    pick b _ _ (b == 13) (λ e. inr (inr (inr (by 13 e)))) (λ _.
    pick b _ _ (b == 10) (λ e. inr (inr (inl (by 10 e)))) (λ _.
    pick b _ _ (b == 34) (λ e. by 34 e) (λ _.
    pick b _ _ (b == 44) (λ e. by 44 e) (λ _.
    pick b _ _ (b == 58) (λ e. by 58 e) (λ _.
    pick b _ _ (b == 91) (λ e. by 91 e) (λ _.
    pick b _ _ (b == 93) (λ e. by 93 e) (λ _.
    pick b _ _ (b == 123) (λ e. by 123 e) (λ _.
    pick b _ _ (b == 125) (λ e. by 125 e) (λ _.
    pick b _ _ (b == 45) (λ e. by 45 e) (λ _.
    pick b _ _ (b == 43) (λ e. by 43 e) (λ _.
    pick b _ _ (b == 46) (λ e. by 46 e) (λ _.
    pick b _ _ (b == 48) (λ e. by 48 e) (λ _.
    pick b _ _ (nat_le 49 b && nat_le b 57) (λ e. let both = and_parts (nat_le 49 b) (nat_le b 57) e in (leb-true 49 b both.0, leb-true b 57 both.1)) (λ _.
    pick b _ _ (b == 101) (λ e. inl (by 101 e)) (λ _.
    pick b _ _ (b == 69) (λ e. inr (by 69 e)) (λ _.
    pick b _ _ (b == 116) (λ e. by 116 e) (λ _.
    pick b _ _ (b == 102) (λ e. by 102 e) (λ _.
    pick b _ _ (b == 110) (λ e. by 110 e) (λ _. tt)))))))))))))))))))))

-- a byte of this class
pub of_class : (b : ℕ) (c : Class) → class_of b ≡ c → IsOf c b
of_class b c e = subst (λ (x : Class). IsOf x b) e (is_of b)

pub blank_class : (b : ℕ) → IsBlank b → class_of b ≡ class.Blank
blank_class b (inl e) = ap class_of e
blank_class b (inr (inl e)) = ap class_of e
blank_class b (inr (inr (inl e))) = ap class_of e
blank_class b (inr (inr (inr e))) = ap class_of e

-- the class of a digit that is no zero
pub nonzero_class : (b : ℕ) → 49 ≤ b → b ≤ 57 → class_of b ≡ class.Digit
nonzero_class b low high = grind (arith, nat_tests)

pub digit_class : (b : ℕ) → IsDigit b → (class_of b ≡ class.Zero) ⊎ (class_of b ≡ class.Digit)
digit_class b d = by_first (b == 48) refl
  where
    by_first : (t : Bool) → (b == 48) ≡ t → (class_of b ≡ class.Zero) ⊎ (class_of b ≡ class.Digit)
    by_first true e = inl (ap class_of (eqb-true b 48 e))
    by_first false e = inr (nonzero_class b (let no = eqb-false b 48 e in omega arith) d.1)

pub class_digit : (b : ℕ) (c : Class) → class_of b ≡ c → (c ≡ class.Zero) ⊎ (c ≡ class.Digit) → IsDigit b
class_digit b c e (inl z) = let h : b ≡ 48 = of_class b class.Zero (e ∙ z) in (omega arith, omega arith)
class_digit b c e (inr z) = let h = of_class b class.Digit (e ∙ z) in (omega arith, omega arith)

-- ---- classes of ASCII
abbrev pub IsKnown : Class → Type 0
IsKnown class.Other = ⊥
IsKnown c = Unit {0}

pub class_ascii : (b : ℕ) (c : Class) → class_of b ≡ c → IsKnown c → b < 128
class_ascii b class.Blank e k = blank (of_class b class.Blank e)
  where
    blank : (b ≡ 32) ⊎ ((b ≡ 9) ⊎ ((b ≡ 10) ⊎ (b ≡ 13))) → b < 128
    blank (inl h) = omega arith
    blank (inr (inl h)) = omega arith
    blank (inr (inr (inl h))) = omega arith
    blank (inr (inr (inr h))) = omega arith
class_ascii b class.Quote e k = let h = of_class b class.Quote e in omega arith
class_ascii b class.Comma e k = let h = of_class b class.Comma e in omega arith
class_ascii b class.Colon e k = let h = of_class b class.Colon e in omega arith
class_ascii b class.OpenArray e k = let h = of_class b class.OpenArray e in omega arith
class_ascii b class.CloseArray e k = let h = of_class b class.CloseArray e in omega arith
class_ascii b class.OpenObject e k = let h = of_class b class.OpenObject e in omega arith
class_ascii b class.CloseObject e k = let h = of_class b class.CloseObject e in omega arith
class_ascii b class.Minus e k = let h = of_class b class.Minus e in omega arith
class_ascii b class.Plus e k = let h = of_class b class.Plus e in omega arith
class_ascii b class.Point e k = let h = of_class b class.Point e in omega arith
class_ascii b class.Zero e k = let h = of_class b class.Zero e in omega arith
class_ascii b class.Digit e k = let h = of_class b class.Digit e in omega (arith, h.1)
class_ascii b class.Exponent e k = mark (of_class b class.Exponent e)
  where
    mark : (b ≡ 101) ⊎ (b ≡ 69) → b < 128
    mark (inl h) = omega arith
    mark (inr h) = omega arith
class_ascii b class.LetterT e k = let h = of_class b class.LetterT e in omega arith
class_ascii b class.LetterF e k = let h = of_class b class.LetterF e in omega arith
class_ascii b class.LetterN e k = let h = of_class b class.LetterN e in omega arith
class_ascii b class.Other e k = absurd k

pub part_known : (p : Part) (c : Class) (q : Part) → part_next p c ≡ Some q → IsKnown c
part_known part.Minus class.Other q e = cc
part_known part.Zero class.Other q e = cc
part_known part.Whole class.Other q e = cc
part_known part.Point class.Other q e = cc
part_known part.Fraction class.Other q e = cc
part_known part.Exponent class.Other q e = cc
part_known part.Sign class.Other q e = cc
part_known part.Power class.Other q e = cc
part_known p c q e = tt

pub hex_ascii : (b : ℕ) → digit_value b < 16 → b < 128
hex_ascii b lt = grind (arith, nat_tests)
