-- How a number goes on, byte for byte.
use Rattle.std.proofs.Common.{◌≡◌, ℕ, ◌⊎◌, inl, inr, List, [], ◌∷◌, true, Option, Some, None, refl, sym, ap, subst, ◌∙◌, arith}
use Rattle.ts_ojson.specs.declared.class.Class.{Class}
use Rattle.ts_ojson.specs.declared.class.Class.TheVariants as class
use Rattle.ts_ojson.specs.declared.part.Part.{Part}
use Rattle.ts_ojson.specs.declared.part.Part.TheVariants as part
use Rattle.ts_ojson.specs.Number.{IsDigit, Digits, SomeDigits, Whole, Fraction, Sign, Exponent, Number}
use Rattle.ts_ojson.specs.Machine.{class_of, digit_next, whole_next, minus_next, more_whole, more_fraction, exponent_next, part_next, part_ends}
use Rattle.ts_ojson.proofs.Meaning.{Tail}
use Rattle.ts_ojson.proofs.ClassLemmas.{of_class, digit_class, nonzero_class, class_digit}

abbrev pub TailNext : Option Part → List ℕ → List ℕ → Type 0
TailNext None w r = ⊥
TailNext (Some p) w r = Tail p w r

-- ---- what each piece begins with
some_first : (b : ℕ) (w r : List ℕ) → SomeDigits (b ∷ w) r → IsDigit b × Digits w r
some_first b w r (c, u, e, d, ds) =
    let eb : c ≡ b = cc in let ew : u ≡ w = cc in
    (subst IsDigit eb d, subst (λ (x : List ℕ). Digits x r) ew ds)

exponent_first : (b : ℕ) (w r : List ℕ) → Exponent (b ∷ w) r → (r ≡ b ∷ w) ⊎ ((class_of b ≡ class.Exponent) × Tail part.Exponent w r)
exponent_first b w r (inl h) = inl (sym h)
exponent_first b w r (inr (e, u, v, h, inl x, s, d)) =
    let eb : b ≡ 101 = cc in let ew : u ≡ w = cc in inr (ap class_of eb, (v, subst (λ (y : List ℕ). Sign y v) ew s, d))
exponent_first b w r (inr (e, u, v, h, inr x, s, d)) =
    let eb : b ≡ 69 = cc in let ew : u ≡ w = cc in inr (ap class_of eb, (v, subst (λ (y : List ℕ). Sign y v) ew s, d))

fraction_first : (b : ℕ) (w c : List ℕ) → Fraction (b ∷ w) c → (c ≡ b ∷ w) ⊎ ((class_of b ≡ class.Point) × SomeDigits w c)
fraction_first b w c (inl h) = inl (sym h)
fraction_first b w c (inr (u, h, d)) = let eb : b ≡ 46 = cc in let ew : u ≡ w = cc in inr (ap class_of eb, subst (λ (y : List ℕ). SomeDigits y c) ew d)

sign_first : (b : ℕ) (w c : List ℕ) → Sign (b ∷ w) c → (c ≡ b ∷ w) ⊎ (((class_of b ≡ class.Plus) ⊎ (class_of b ≡ class.Minus)) × (c ≡ w))
sign_first b w c (inl h) = inl (sym h)
sign_first b w c (inr (inl h)) = let eb : b ≡ 43 = cc in let ew : c ≡ w = cc in inr (inl (ap class_of eb), ew)
sign_first b w c (inr (inr h)) = let eb : b ≡ 45 = cc in let ew : c ≡ w = cc in inr (inr (ap class_of eb), ew)

whole_first : (b : ℕ) (w c : List ℕ) → Whole (b ∷ w) c → ((class_of b ≡ class.Zero) × (c ≡ w)) ⊎ ((class_of b ≡ class.Digit) × Digits w c)
whole_first b w c (inl h) = let eb : b ≡ 48 = cc in let ew : c ≡ w = cc in inl (ap class_of eb, ew)
whole_first b w c (inr (d, u, h, low, high, ds)) =
    let eb : d ≡ b = cc in let ew : u ≡ w = cc in
    inr (nonzero_class b (omega arith) (omega arith), subst (λ (y : List ℕ). Digits y c) ew ds)

-- ---- from the class to what follows, by a table of parts
module _ (b : ℕ) (f : Class → Option Part) where
  at_class : (c : Class) (p : Part) (w r : List ℕ) → class_of b ≡ c → f c ≡ Some p → Tail p w r → TailNext (f (class_of b)) w r
  at_class c p w r e is t = subst (λ (o : Option Part). TailNext o w r) (sym (ap f e ∙ is)) t

  at_digit : (p : Part) (w r : List ℕ) → IsDigit b → f class.Zero ≡ Some p → f class.Digit ≡ Some p → Tail p w r → TailNext (f (class_of b)) w r
  at_digit p w r d z n t = by_class (digit_class b d)
    where
      by_class : (class_of b ≡ class.Zero) ⊎ (class_of b ≡ class.Digit) → TailNext (f (class_of b)) w r
      by_class (inl e) = at_class class.Zero p w r e z t
      by_class (inr e) = at_class class.Digit p w r e n t

  exponent_or : (w c r : List ℕ) → f class.Exponent ≡ Some part.Exponent → c ≡ b ∷ w → Exponent c r → (r ≡ b ∷ w) ⊎ TailNext (f (class_of b)) w r
  exponent_or w c r is e x = by (exponent_first b w r (subst (λ (y : List ℕ). Exponent y r) e x))
    where
      by : (r ≡ b ∷ w) ⊎ ((class_of b ≡ class.Exponent) × Tail part.Exponent w r) → (r ≡ b ∷ w) ⊎ TailNext (f (class_of b)) w r
      by (inl h) = inl h
      by (inr h) = inr (at_class class.Exponent part.Exponent w r h.0 is h.1)

  fraction_or : (w a c r : List ℕ) → f class.Exponent ≡ Some part.Exponent → f class.Point ≡ Some part.Point → a ≡ b ∷ w → Fraction a c → Exponent c r → (r ≡ b ∷ w) ⊎ TailNext (f (class_of b)) w r
  fraction_or w a c r is point e x y = by (fraction_first b w c (subst (λ (z : List ℕ). Fraction z c) e x))
    where
      by : (c ≡ b ∷ w) ⊎ ((class_of b ≡ class.Point) × SomeDigits w c) → (r ≡ b ∷ w) ⊎ TailNext (f (class_of b)) w r
      by (inl h) = exponent_or w c r is h y
      by (inr h) = inr (at_class class.Point part.Point w r h.0 point (c, h.1, y))

-- ---- one byte on
forward_whole : (b : ℕ) (w a c r : List ℕ) → Digits (b ∷ w) a → Fraction a c → Exponent c r → (r ≡ b ∷ w) ⊎ TailNext (more_whole (class_of b)) w r
forward_whole b w a c r (inl h) f e = fraction_or b more_whole w a c r refl refl h f e
forward_whole b w a c r (inr h) f e = inr (at_digit b more_whole part.Whole w r h.0 refl refl (a, c, h.1, f, e))

forward_fraction : (b : ℕ) (w c r : List ℕ) → Digits (b ∷ w) c → Exponent c r → (r ≡ b ∷ w) ⊎ TailNext (more_fraction (class_of b)) w r
forward_fraction b w c r (inl h) e = exponent_or b more_fraction w c r refl h e
forward_fraction b w c r (inr h) e = inr (at_digit b more_fraction part.Fraction w r h.0 refl refl (c, h.1, e))

forward_power : (b : ℕ) (w r : List ℕ) → Digits (b ∷ w) r → (r ≡ b ∷ w) ⊎ TailNext (digit_next (class_of b) part.Power) w r
forward_power b w r (inl h) = inl h
forward_power b w r (inr h) = inr (at_digit b (λ c. digit_next c part.Power) part.Power w r h.0 refl refl h.1)

forward_minus : (b : ℕ) (w a c r : List ℕ) → ((class_of b ≡ class.Zero) × (a ≡ w)) ⊎ ((class_of b ≡ class.Digit) × Digits w a) → Fraction a c → Exponent c r → TailNext (minus_next (class_of b)) w r
forward_minus b w a c r (inl h) f e = at_class b minus_next class.Zero part.Zero w r h.0 refl (c, subst (λ (y : List ℕ). Fraction y c) h.1 f, e)
forward_minus b w a c r (inr h) f e = at_class b minus_next class.Digit part.Whole w r h.0 refl (a, c, h.1, f, e)

forward_exponent : (b : ℕ) (w c r : List ℕ) → (c ≡ b ∷ w) ⊎ (((class_of b ≡ class.Plus) ⊎ (class_of b ≡ class.Minus)) × (c ≡ w)) → SomeDigits c r → TailNext (exponent_next (class_of b)) w r
forward_exponent b w c r (inl h) d = let s = some_first b w r (subst (λ (y : List ℕ). SomeDigits y r) h d) in at_digit b exponent_next part.Power w r s.0 refl refl s.1
forward_exponent b w c r (inr (inl h, e)) d = at_class b exponent_next class.Plus part.Sign w r h refl (subst (λ (y : List ℕ). SomeDigits y r) e d)
forward_exponent b w c r (inr (inr h, e)) d = at_class b exponent_next class.Minus part.Sign w r h refl (subst (λ (y : List ℕ). SomeDigits y r) e d)

pub tail_forward : (p : Part) (b : ℕ) (w r : List ℕ) → Tail p (b ∷ w) r → (r ≡ b ∷ w) ⊎ TailNext (part_next p (class_of b)) w r
tail_forward part.Minus b w r (a, c, x, f, e) = inr (forward_minus b w a c r (whole_first b w a x) f e)
tail_forward part.Zero b w r (c, f, e) = fraction_or b whole_next w (b ∷ w) c r refl refl refl f e
tail_forward part.Whole b w r (a, c, d, f, e) = forward_whole b w a c r d f e
tail_forward part.Point b w r (c, d, e) = let s = some_first b w c d in inr (at_digit b (λ x. digit_next x part.Fraction) part.Fraction w r s.0 refl refl (c, s.1, e))
tail_forward part.Fraction b w r (c, d, e) = forward_fraction b w c r d e
tail_forward part.Exponent b w r (c, s, d) = inr (forward_exponent b w c r (sign_first b w c s) d)
tail_forward part.Sign b w r d = let s = some_first b w r d in inr (at_digit b (λ x. digit_next x part.Power) part.Power w r s.0 refl refl s.1)
tail_forward part.Power b w r d = forward_power b w r d

-- ---- one byte back
digit_back : (b : ℕ) (w r : List ℕ) (c : Class) (p : Part) → class_of b ≡ c → TailNext (digit_next c p) w r → IsDigit b × Tail p w r
digit_back b w r class.Zero p e t = (class_digit b class.Zero e (inl refl), t)
digit_back b w r class.Digit p e t = (class_digit b class.Digit e (inr refl), t)
digit_back b w r c p e t = absurd t

whole_back : (b : ℕ) (w r : List ℕ) (c : Class) → class_of b ≡ c → TailNext (whole_next c) w r → Tail part.Zero (b ∷ w) r
whole_back b w r class.Point e (c, d, x) = (c, inr (w, ap (λ n. n ∷ w) (of_class b class.Point e), d), x)
whole_back b w r class.Exponent e (v, s, d) = (b ∷ w, inl refl, inr (b, w, v, refl, of_class b class.Exponent e, s, d))
whole_back b w r c e t = absurd t

more_back : (b : ℕ) (w r : List ℕ) (c : Class) → class_of b ≡ c → TailNext (more_whole c) w r → Tail part.Whole (b ∷ w) r
more_back b w r class.Zero e (a, c, d, f, x) = (a, c, inr (class_digit b class.Zero e (inl refl), d), f, x)
more_back b w r class.Digit e (a, c, d, f, x) = (a, c, inr (class_digit b class.Digit e (inr refl), d), f, x)
more_back b w r class.Point e t = let z = whole_back b w r class.Point e t in (b ∷ w, z.0, inl refl, z.1, z.2)
more_back b w r class.Exponent e t = let z = whole_back b w r class.Exponent e t in (b ∷ w, z.0, inl refl, z.1, z.2)
more_back b w r c e t = absurd t

minus_back : (b : ℕ) (w r : List ℕ) (c : Class) → class_of b ≡ c → TailNext (minus_next c) w r → Tail part.Minus (b ∷ w) r
minus_back b w r class.Zero e (c, f, x) = (w, c, inl (ap (λ n. n ∷ w) (of_class b class.Zero e)), f, x)
minus_back b w r class.Digit e (a, c, d, f, x) = let is = of_class b class.Digit e in (a, c, inr (b, w, refl, is.0, is.1, d), f, x)
minus_back b w r c e t = absurd t

fraction_back : (b : ℕ) (w r : List ℕ) (c : Class) → class_of b ≡ c → TailNext (more_fraction c) w r → Tail part.Fraction (b ∷ w) r
fraction_back b w r class.Zero e (c, d, x) = (c, inr (class_digit b class.Zero e (inl refl), d), x)
fraction_back b w r class.Digit e (c, d, x) = (c, inr (class_digit b class.Digit e (inr refl), d), x)
fraction_back b w r class.Exponent e (v, s, d) = (b ∷ w, inl refl, inr (b, w, v, refl, of_class b class.Exponent e, s, d))
fraction_back b w r c e t = absurd t

exponent_back : (b : ℕ) (w r : List ℕ) (c : Class) → class_of b ≡ c → TailNext (exponent_next c) w r → Tail part.Exponent (b ∷ w) r
exponent_back b w r class.Zero e d = (b ∷ w, inl refl, (b, w, refl, class_digit b class.Zero e (inl refl), d))
exponent_back b w r class.Digit e d = (b ∷ w, inl refl, (b, w, refl, class_digit b class.Digit e (inr refl), d))
exponent_back b w r class.Plus e d = (w, inr (inl (ap (λ n. n ∷ w) (of_class b class.Plus e))), d)
exponent_back b w r class.Minus e d = (w, inr (inr (ap (λ n. n ∷ w) (of_class b class.Minus e))), d)
exponent_back b w r c e t = absurd t

pub tail_back : (p : Part) (b : ℕ) (w r : List ℕ) → TailNext (part_next p (class_of b)) w r → Tail p (b ∷ w) r
tail_back part.Minus b w r t = minus_back b w r (class_of b) refl t
tail_back part.Zero b w r t = whole_back b w r (class_of b) refl t
tail_back part.Whole b w r t = more_back b w r (class_of b) refl t
tail_back part.Point b w r t = let s = digit_back b w r (class_of b) part.Fraction refl t in (s.1.0, (b, w, refl, s.0, s.1.1), s.1.2)
tail_back part.Fraction b w r t = fraction_back b w r (class_of b) refl t
tail_back part.Exponent b w r t = exponent_back b w r (class_of b) refl t
tail_back part.Sign b w r t = let s = digit_back b w r (class_of b) part.Power refl t in (b, w, refl, s.0, s.1)
tail_back part.Power b w r t = let s = digit_back b w r (class_of b) part.Power refl t in inr s

-- ---- the end
pub tail_end : (p : Part) → part_ends p ≡ true → Tail p [] []
tail_end part.Minus e = cc
tail_end part.Zero e = ([], inl refl, inl refl)
tail_end part.Whole e = ([], [], refl, inl refl, inl refl)
tail_end part.Point e = cc
tail_end part.Fraction e = ([], refl, inl refl)
tail_end part.Exponent e = cc
tail_end part.Sign e = cc
tail_end part.Power e = refl

no_some : (r : List ℕ) → SomeDigits [] r → ⊥
no_some r (c, u, e, d, ds) = cc

pub ends_tail : (p : Part) → Tail p [] [] → part_ends p ≡ true
ends_tail part.Minus (b, c, inl h, f, e) = cc
ends_tail part.Minus (b, c, inr (d, u, h, low, high, ds), f, e) = cc
ends_tail part.Zero t = refl
ends_tail part.Whole t = refl
ends_tail part.Point (c, d, e) = absurd (no_some c d)
ends_tail part.Fraction t = refl
ends_tail part.Exponent (c, inl h, d) = absurd (no_some [] (subst (λ (y : List ℕ). SomeDigits y []) (sym h) d))
ends_tail part.Exponent (c, inr (inl h), d) = cc
ends_tail part.Exponent (c, inr (inr h), d) = cc
ends_tail part.Sign d = absurd (no_some [] d)
ends_tail part.Power t = refl

-- ---- the first byte
abbrev pub NumberNext : Class → List ℕ → List ℕ → Type 0
NumberNext class.Minus w r = Tail part.Minus w r
NumberNext class.Zero w r = Tail part.Zero w r
NumberNext class.Digit w r = Tail part.Whole w r
NumberNext c w r = ⊥

start : (b : ℕ) (w a c r : List ℕ) → ((class_of b ≡ class.Zero) × (a ≡ w)) ⊎ ((class_of b ≡ class.Digit) × Digits w a) → Fraction a c → Exponent c r → NumberNext (class_of b) w r
start b w a c r (inl h) f e = subst (λ (x : Class). NumberNext x w r) (sym h.0) (c, subst (λ (y : List ℕ). Fraction y c) h.1 f, e)
start b w a c r (inr h) f e = subst (λ (x : Class). NumberNext x w r) (sym h.0) (a, c, h.1, f, e)

pub number_forward : (b : ℕ) (w r : List ℕ) → Number (b ∷ w) r → NumberNext (class_of b) w r
number_forward b w r (m, a, c, inl h, x, f, e) = start b w a c r (whole_first b w a (subst (λ (y : List ℕ). Whole y a) (sym h) x)) f e
number_forward b w r (m, a, c, inr h, x, f, e) =
    let eb : b ≡ 45 = cc in let ew : m ≡ w = cc in
    subst (λ (y : Class). NumberNext y w r) (sym (ap class_of eb)) (a, c, subst (λ (y : List ℕ). Whole y a) ew x, f, e)

pub number_back : (b : ℕ) (w r : List ℕ) (k : Class) → class_of b ≡ k → NumberNext k w r → Number (b ∷ w) r
number_back b w r class.Minus e (a, c, x, f, y) = (w, a, c, inr (ap (λ n. n ∷ w) (of_class b class.Minus e)), x, f, y)
number_back b w r class.Zero e (c, f, y) = (b ∷ w, w, c, inl refl, inl (ap (λ n. n ∷ w) (of_class b class.Zero e)), f, y)
number_back b w r class.Digit e (a, c, d, f, y) = let is = of_class b class.Digit e in (b ∷ w, a, c, inl refl, inr (b, w, refl, is.0, is.1, d), f, y)
number_back b w r k e t = absurd t

pub no_number : Number [] [] → ⊥
no_number (m, a, c, inl h, inl x, f, e) = cc
no_number (m, a, c, inl h, inr (d, u, x, low, high, ds), f, e) = cc
no_number (m, a, c, inr h, x, f, e) = cc
