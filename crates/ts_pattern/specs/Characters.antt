-- The characters of a pattern's text, by their places from 0.
use Rattle.std.specs.Prelude.{ℕ, ◌+◌, ◌-◌, ◌*◌, ◌<◌, ◌≤◌, Bool, true, ◌&&◌, ◌||◌, nat_le, nat_lt, ◌==◌, List, [], ◌∷◌, length, take, drop, fold, slice_index_or, codes, if◌then◌else◌}
use Rattle.std.specs.List.{prefix_len}
use Rattle.std.specs.Char.{digit_value, is_digit, is_ascii_alphanumeric}
use Prim.Native.String.{String}
use Rattle.ts_base.specs.Characters.{first_surrogate, past_surrogates, greatest_character}
use Rattle.ts_pattern.specs.declared.chars.Test.{Test}
use Rattle.ts_pattern.specs.declared.chars.Test.TheVariants.{Decimal, Hex, Name}
use Rattle.ts_pattern.specs.declared.sight.Sight.{Sight}
use Rattle.ts_pattern.specs.declared.sight.Sight.TheVariants.{Sees, Wrong}

-- characters, by their codes
abbrev pub Text : Type 0
Text = List ℕ

-- what stands past the end: no character has this code
abbrev pub ending : ℕ
ending = 0x110000

-- the codes of the signs that more than one rule names, first that of `-`
abbrev pub hyphen : ℕ
hyphen = 45

-- the code of `?`
abbrev pub question : ℕ
question = 63

-- the code of `[`
abbrev pub open_bracket : ℕ
open_bracket = 91

-- the code of `\`
abbrev pub backslash : ℕ
backslash = 92

-- the code of `]`
abbrev pub close_bracket : ℕ
close_bracket = 93

-- the code of `{`
abbrev pub open_brace : ℕ
open_brace = 123

-- the code of `}`
abbrev pub close_brace : ℕ
close_brace = 125

-- the code of the character at a place
abbrev pub peek : Text → ℕ → ℕ
peek w i = slice_index_or w i ending

-- the text goes on with this word
abbrev pub goes_on : Text → ℕ → Text → Bool
goes_on w i [] = true
goes_on w i (c ∷ cs) = (peek w i == c) && goes_on w (i + 1) cs

-- the text goes on with the characters of this string
abbrev pub spells : Text → ℕ → String → Bool
spells w i s = goes_on w i (codes s)

-- how many characters in a row pass the test
abbrev pub run : (ℕ → Bool) → Text → ℕ → ℕ
run p w i = prefix_len p (drop i w)

-- the character is a decimal digit
abbrev pub is_decimal : ℕ → Bool
is_decimal c = is_digit c 10

-- the character is a hex digit
abbrev pub is_hex : ℕ → Bool
is_hex c = is_digit c 16

-- a character of a property's name: an ASCII letter, a digit or `_`
abbrev pub is_name_char : ℕ → Bool
is_name_char c = is_ascii_alphanumeric c || (c == 95)

-- the character passes the test
abbrev pub passes : Test → ℕ → Bool
passes Decimal = is_decimal
passes Hex = is_hex
passes Name = is_name_char

-- the number that digits write
abbrev pub value : ℕ → Text → ℕ
value radix digits = fold (λ n d. n * radix + digit_value d) 0 digits

-- the number that the n digits from a place on write
abbrev pub number : ℕ → Text → ℕ → ℕ → ℕ
number radix w i n = value radix (take n (drop i w))

-- the digit at a place of a number that is written with so many digits, zeros in front
abbrev pub padded_digit : Text → ℕ → ℕ → ℕ
padded_digit digits width i =
    if nat_lt i (width - length digits)
    then 0 else digit_value (slice_index_or digits (i - (width - length digits)) 0)

-- all of them are decimal digits
abbrev pub AreDecimal : Text → Type 0
AreDecimal digits = (k : ℕ) → k < length digits → digit_value (slice_index_or digits k 0) < 10

-- a character's code is no surrogate and at most 10FFFF
abbrev pub is_scalar : ℕ → Bool
is_scalar c = nat_lt c first_surrogate
    || (nat_le past_surrogates c && nat_le c greatest_character)

-- what is seen at place i ends after it, and what is wrong stands no earlier; both are within the
-- text
abbrev pub IsSightWithin : {T : Type 0} → Text → ℕ → Sight T → Type 0
IsSightWithin w i (Sees x j) = (i < j) × (j ≤ length w)
IsSightWithin w i (Wrong flaw p) = (i ≤ p) × (p ≤ length w)
