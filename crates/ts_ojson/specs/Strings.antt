-- How the reader goes on within a string, for private clauses.
use Rattle.std.specs.Prelude.{ℕ, ◌+◌, ◌*◌, ◌<◌, ◌≤◌, ◌⊎◌, List, [], ◌∷◌, ◌++◌, cond, ◌==◌, nat_lt, Option, Some, None, ⊤}
use Rattle.std.specs.Char.{encode_utf8, digit_value}
use Rattle.ts_base.specs.Bytes.{Bytes}
use Rattle.ts_base.specs.Characters.{first_surrogate, first_low_surrogate, past_surrogates}
use Rattle.ts_ojson.specs.declared.escape.Escape.{Escape}
use Rattle.ts_ojson.specs.declared.escape.Escape.TheVariants.{Plain, Backslash, First, Second, Third, Fourth, High, HighBackslash, LowFirst, LowSecond, LowThird, LowFourth}
use Rattle.ts_ojson.specs.declared.escape.Next.{Next}
use Rattle.ts_ojson.specs.declared.escape.Next.TheVariants.{More, Character}
use Rattle.ts_ojson.specs.Pieces.{Piece}
use Rattle.ts_ojson.specs.Pieces.{reading, finished}
use Rattle.ts_ojson.specs.Characters.{IsHigh, pair_of, short_of}

-- the string with a byte outside an escape: a character, a backslash or the last quote
abbrev pub plain_piece : Bytes → ℕ → Option Piece
plain_piece s b =
    cond (b == 34) (Some (finished s))
    (cond (b == 92) (Some (reading Backslash s))
    (cond (nat_lt b 32) None (Some (reading Plain (s ++ b ∷ [])))))

-- the string with the character of a short escape, where there is one
abbrev pub shorted : Bytes → Option ℕ → Option Piece
shorted s None = None
shorted s (Some c) = Some (reading Plain (s ++ c ∷ []))

-- the string with the byte behind a backslash
abbrev pub backslash_piece : Bytes → ℕ → Option Piece
backslash_piece s b = cond (b == 117) (Some (reading First s)) (shorted s (short_of b))

-- the string with a code unit: a high surrogate waits for a low one, and no low one comes first
abbrev pub unit_piece : Bytes → ℕ → Option Piece
unit_piece s u =
    cond (nat_lt u first_surrogate) (Some (reading Plain (s ++ encode_utf8 u)))
    (cond (nat_lt u first_low_surrogate) (Some (reading (High u) s))
    (cond (nat_lt u past_surrogates) None (Some (reading Plain (s ++ encode_utf8 u)))))

-- the string with the character of two surrogates
abbrev pub pair_piece : Bytes → ℕ → ℕ → Option Piece
pair_piece s h l = Some (reading Plain (s ++ encode_utf8 (pair_of h l)))

-- the string behind two digits of an escape, which begin no low surrogate
abbrev pub third_piece : Bytes → ℕ → Option Piece
third_piece s n =
    cond (nat_lt n 220) (Some (reading (Third n) s))
    (cond (nat_lt n 224) None (Some (reading (Third n) s)))

-- the string with one more hex digit of an escape, by the digits before it
abbrev pub digit_piece : Escape → Bytes → ℕ → Option Piece
digit_piece Plain s d = None
digit_piece Backslash s d = None
digit_piece First s d = Some (reading (Second d) s)
digit_piece (Second n) s d = third_piece s (n * 16 + d)
digit_piece (Third n) s d = Some (reading (Fourth (n * 16 + d)) s)
digit_piece (Fourth n) s d = unit_piece s (n * 16 + d)
digit_piece (High h) s d = None
digit_piece (HighBackslash h) s d = None
digit_piece (LowFirst h) s d = cond (d == 13) (Some (reading (LowSecond h) s)) None
digit_piece (LowSecond h) s d = cond (nat_lt d 12) None (Some (reading (LowThird h (208 + d)) s))
digit_piece (LowThird h n) s d = Some (reading (LowFourth h (n * 16 + d)) s)
digit_piece (LowFourth h n) s d = pair_piece s h (n * 16 + d)

-- the string with a byte that has to be a hex digit
abbrev pub hex_piece : Escape → Bytes → ℕ → Option Piece
hex_piece e s b = cond (nat_lt (digit_value b) 16) (digit_piece e s (digit_value b)) None

-- the string with one more byte, where it can go on with it
abbrev pub next_piece : Escape → Bytes → ℕ → Option Piece
next_piece Plain s b = plain_piece s b
next_piece Backslash s b = backslash_piece s b
next_piece First s b = hex_piece First s b
next_piece (Second n) s b = hex_piece (Second n) s b
next_piece (Third n) s b = hex_piece (Third n) s b
next_piece (Fourth n) s b = hex_piece (Fourth n) s b
next_piece (High h) s b = cond (b == 92) (Some (reading (HighBackslash h) s)) None
next_piece (HighBackslash h) s b = cond (b == 117) (Some (reading (LowFirst h) s)) None
next_piece (LowFirst h) s b = hex_piece (LowFirst h) s b
next_piece (LowSecond h) s b = hex_piece (LowSecond h) s b
next_piece (LowThird h n) s b = hex_piece (LowThird h n) s b
next_piece (LowFourth h n) s b = hex_piece (LowFourth h n) s b

-- what the numbers in an escape can be
abbrev pub IsWithin : Escape → Type 0
IsWithin Plain = ⊤
IsWithin Backslash = ⊤
IsWithin First = ⊤
IsWithin (Second n) = n < 16
IsWithin (Third n) = (n < 220) ⊎ ((224 ≤ n) × (n < 256))
IsWithin (Fourth n) = (n < 3520) ⊎ ((3584 ≤ n) × (n < 4096))
IsWithin (High h) = IsHigh h
IsWithin (HighBackslash h) = IsHigh h
IsWithin (LowFirst h) = IsHigh h
IsWithin (LowSecond h) = IsHigh h
IsWithin (LowThird h n) = IsHigh h × (220 ≤ n) × (n < 224)
IsWithin (LowFourth h n) = IsHigh h × (3520 ≤ n) × (n < 3584)

-- so, and within an escape
abbrev pub IsInside : Escape → Type 0
IsInside Plain = ⊥
IsInside Backslash = ⊤
IsInside First = ⊤
IsInside (Second n) = IsWithin (Second n)
IsInside (Third n) = IsWithin (Third n)
IsInside (Fourth n) = IsWithin (Fourth n)
IsInside (High h) = IsHigh h
IsInside (HighBackslash h) = IsHigh h
IsInside (LowFirst h) = IsHigh h
IsInside (LowSecond h) = IsHigh h
IsInside (LowThird h n) = IsWithin (LowThird h n)
IsInside (LowFourth h n) = IsWithin (LowFourth h n)

-- the string with an escape that goes on, or whose character was read
abbrev pub piece_of : Bytes → Option Next → Option Piece
piece_of s None = None
piece_of s (Some (More e)) = Some (reading e s)
piece_of s (Some (Character c)) = Some (reading Plain (s ++ encode_utf8 c))

-- an escape that goes on is within what it can be
abbrev pub IsGoing : Next → Type 0
IsGoing (More e) = IsInside e
IsGoing (Character c) = ⊤
