-- The numbers of characters (Unicode's scalar values): all below a limit, but for those that stand
-- for half of another character, the surrogates.
use Rattle.std.specs.Prelude.{ℕ}

-- the first surrogate, which is a high one
abbrev pub first_surrogate : ℕ
first_surrogate = 55296

-- the first low surrogate; the high ones end before it
abbrev pub first_low_surrogate : ℕ
first_low_surrogate = 56320

-- the first character behind the surrogates
abbrev pub past_surrogates : ℕ
past_surrogates = 57344

-- how many numbers there are up to the greatest character
abbrev pub character_count : ℕ
character_count = 1114112

-- the greatest character
abbrev pub greatest_character : ℕ
greatest_character = 1114111
