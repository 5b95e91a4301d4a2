-- The characters of a string (RFC 8259, section 7), with two narrowings: an escape of a high
-- surrogate is followed by one of a low surrogate, and no low one stands alone. A raw byte here is
-- any byte that is no control character, quote or backslash: that the whole text is UTF-8 is asked
-- in `Reads`.
use Rattle.std.specs.Prelude.{◌≡◌, ◌≢◌, ℕ, zero, suc, ◌+◌, ◌-◌, ◌*◌, ◌<◌, ◌≤◌, ◌⊎◌, List, [], ◌∷◌, ◌++◌, cond, ◌==◌, Option, Some, None}
use Rattle.std.specs.Char.{encode_utf8, digit_value}
use Rattle.ts_base.specs.Bytes.{Bytes}
use Rattle.ts_base.specs.Characters.{first_surrogate, first_low_surrogate, past_surrogates}

-- the quote that begins a string and ends it, as a byte
abbrev pub quote_mark : ℕ
quote_mark = 34

-- the byte stands for itself: it is no control character, quote or backslash
abbrev pub IsRaw : ℕ → Type 0
IsRaw c = (32 ≤ c) × (c ≢ 34) × (c ≢ 92)

-- the character that a backslash and x stand for, where there is one
abbrev pub short_of : ℕ → Option ℕ
short_of x =
    cond (x == 34) (Some 34)
    (cond (x == 92) (Some 92)
    (cond (x == 47) (Some 47)
    (cond (x == 98) (Some 8)
    (cond (x == 102) (Some 12)
    (cond (x == 110) (Some 10)
    (cond (x == 114) (Some 13)
    (cond (x == 116) (Some 9) None)))))))

-- w begins with this many hex digits, which after the number n spell the number u, and r follows
abbrev pub Hex : ℕ → ℕ → ℕ → Bytes → Bytes → Type 0
Hex zero n u w r = (u ≡ n) × (r ≡ w)
Hex (suc k) n u w r =
    (d : ℕ) × (v : Bytes) × (w ≡ d ∷ v) × (digit_value d < 16)
    × Hex k (n * 16 + digit_value d) u v r

-- w begins with an escape of the code unit u, and r follows
abbrev pub Unit16 : ℕ → Bytes → Bytes → Type 0
Unit16 u w r = (v : Bytes) × (w ≡ 92 ∷ 117 ∷ v) × Hex 4 0 u v r

-- the code unit is a high surrogate
abbrev pub IsHigh : ℕ → Type 0
IsHigh u = (first_surrogate ≤ u) × (u < first_low_surrogate)

-- the code unit is a low surrogate
abbrev pub IsLow : ℕ → Type 0
IsLow u = (first_low_surrogate ≤ u) × (u < past_surrogates)

-- the code unit is no surrogate, and so a character by itself
abbrev pub IsAlone : ℕ → Type 0
IsAlone u = (u < first_surrogate) ⊎ (past_surrogates ≤ u)

-- the character of a high and a low surrogate
abbrev pub pair_of : ℕ → ℕ → ℕ
pair_of high low = 65536 + (high - first_surrogate) * 1024 + (low - first_low_surrogate)

-- how one character is written
pub data Mark : Type 0 where
  raw : ℕ → Mark
  short : ℕ → ℕ → Mark
  unit : ℕ → Mark
  pair : ℕ → ℕ → Mark

-- w begins with characters written like this and the quote that ends the string, the characters'
-- UTF-8 is s, and r follows
abbrev pub Characters : List Mark → Bytes → Bytes → Bytes → Type 0
Characters [] s w r = (s ≡ []) × (w ≡ 34 ∷ r)
Characters (raw c ∷ ms) s w r =
    (t : Bytes) × (v : Bytes) × IsRaw c × (w ≡ c ∷ v) × (s ≡ c ∷ t) × Characters ms t v r
Characters (short x c ∷ ms) s w r =
    (t : Bytes) × (v : Bytes) × (short_of x ≡ Some c) × (w ≡ 92 ∷ x ∷ v) × (s ≡ c ∷ t)
    × Characters ms t v r
Characters (unit u ∷ ms) s w r =
    (t : Bytes) × (v : Bytes) × IsAlone u × Unit16 u w v × (s ≡ encode_utf8 u ++ t)
    × Characters ms t v r
Characters (pair h l ∷ ms) s w r =
    (t : Bytes) × (m : Bytes) × (v : Bytes) × IsHigh h × IsLow l × Unit16 h w m × Unit16 l m v
    × (s ≡ encode_utf8 (pair_of h l) ++ t) × Characters ms t v r

-- w begins with a string whose characters' UTF-8 is s, and r follows
abbrev pub Quoted : Bytes → Bytes → Bytes → Type 0
Quoted s w r = (v : Bytes) × (ms : List Mark) × (w ≡ 34 ∷ v) × Characters ms s v r
