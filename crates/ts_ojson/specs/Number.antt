-- How a number is spelled (RFC 8259, section 6). `Part w r` says that the bytes w begin with such a
-- part, and that r follows it.
use Rattle.std.specs.Prelude.{◌≡◌, ℕ, ◌≤◌, ◌⊎◌, List, [], ◌∷◌}
use Rattle.ts_base.specs.Bytes.{Bytes}

-- the byte is a digit
abbrev pub IsDigit : ℕ → Type 0
IsDigit c = (48 ≤ c) × (c ≤ 57)

-- any number of digits
abbrev pub Digits : Bytes → Bytes → Type 0
Digits [] r = r ≡ []
Digits (c ∷ w) r = (r ≡ c ∷ w) ⊎ (IsDigit c × Digits w r)

-- at least one digit
abbrev pub SomeDigits : Bytes → Bytes → Type 0
SomeDigits w r = (c : ℕ) × (u : Bytes) × (w ≡ c ∷ u) × IsDigit c × Digits u r

-- a minus, or nothing
abbrev pub Minus : Bytes → Bytes → Type 0
Minus w r = (w ≡ r) ⊎ (w ≡ 45 ∷ r)

-- a zero alone, or digits that begin with none
abbrev pub Whole : Bytes → Bytes → Type 0
Whole w r = (w ≡ 48 ∷ r) ⊎ ((c : ℕ) × (u : Bytes) × (w ≡ c ∷ u) × (49 ≤ c) × (c ≤ 57) × Digits u r)

-- nothing, or a point and digits
abbrev pub Fraction : Bytes → Bytes → Type 0
Fraction w r = (w ≡ r) ⊎ ((u : Bytes) × (w ≡ 46 ∷ u) × SomeDigits u r)

-- a plus, a minus, or nothing
abbrev pub Sign : Bytes → Bytes → Type 0
Sign w r = (w ≡ r) ⊎ ((w ≡ 43 ∷ r) ⊎ (w ≡ 45 ∷ r))

-- nothing, or e or E, a sign and digits
abbrev pub Exponent : Bytes → Bytes → Type 0
Exponent w r =
    (w ≡ r)
    ⊎ ((e : ℕ) × (u : Bytes) × (v : Bytes) × (w ≡ e ∷ u) × ((e ≡ 101) ⊎ (e ≡ 69)) × Sign u v
    × SomeDigits v r)

-- a number: a minus or none, a whole part, a fraction or none, an exponent or none
abbrev pub Number : Bytes → Bytes → Type 0
Number w r =
    (a : Bytes) × (b : Bytes) × (c : Bytes) × Minus w a × Whole a b × Fraction b c × Exponent c r
