-- How far a text was looked at to lex it, from a place on.
use Rattle.std.specs.Prelude.{◌≡◌, ℕ, ◌+◌, ◌<◌, ◌≤◌, suc, max, ◌⊎◌, ◌&&◌, Bool, true, false, List, [], ◌∷◌}
use Rattle.std.specs.Prelude.{drop, slice_get, Some, nat_le, nat_lt}
use Rattle.std.specs.List.{Contains, prefix_len}
use Rattle.ts_base.specs.Bytes.{Bytes}
use Rattle.ts_core.specs.declared.flat.FlatGrammar.{FlatGrammar}
use Rattle.ts_core.specs.declared.flat.TokenDef.{TokenDef}
use Rattle.ts_core.specs.declared.re.Re.{Re}
use Rattle.ts_core.specs.declared.symbol.Symbol.{Symbol}
use Rattle.spec_lexing.specs.Words.{Front, regular_of}
use Rattle.spec_lexing.specs.Matching.{BeginsSpelled, IsTokenOf, IsWordToken}
use Rattle.spec_lexing.specs.Lexing.{Passes}

-- a valid token is a keyword
pub record HasKeyword (g : FlatGrammar) (valid : List Symbol) : Type 0 where
  pub symbol : Symbol
  pub token : TokenDef
  pub is_valid : Contains valid symbol
  pub is_token : IsTokenOf g symbol token
  pub keyword : token.keyword ≡ true

-- the characters can begin what is looked for: a valid token, the word token where a keyword is
-- valid, or a separator
pub data CanBegin (g : FlatGrammar) (valid : List Symbol) (w : List ℕ) : Type 0 where
  a_token : (symbol : Symbol) (token : TokenDef) → Contains valid symbol → IsTokenOf g symbol token
      → Front (regular_of token.re) w → CanBegin g valid w
  the_word : HasKeyword g valid → (word : TokenDef) → IsWordToken g word
      → Front (regular_of word.re) w → CanBegin g valid w
  a_separator : (place : ℕ) (separator : Re) → slice_get g.separators place ≡ Some separator
      → Front (regular_of separator) w → CanBegin g valid w

-- the first so many bytes can begin what is looked for
pub record HasFront (g : FlatGrammar) (valid : List Symbol) (rest : Bytes) (n : ℕ) : Type 0 where
  pub characters : List ℕ
  pub begins : BeginsSpelled rest characters n
  pub front : CanBegin g valid characters

-- the byte goes on with a character that began before it
abbrev pub is_inner : ℕ → Bool
is_inner byte = nat_le 128 byte && nat_lt byte 192

-- how many bytes the next character has, or what is left of it inside one; the end counts as one
-- byte
abbrev pub one_character : Bytes → ℕ
one_character [] = 1
one_character (byte ∷ bytes) = suc (prefix_len is_inner bytes)

-- at one place, the end of the one character after the longest front. The empty list is always a
-- front.
pub record IsReach (g : FlatGrammar) (valid : List Symbol) (rest : Bytes) (reach : ℕ) : Type 0 where
  pub size : ℕ
  pub front : (size ≡ 0) ⊎ HasFront g valid rest size
  pub longest : (n : ℕ) → HasFront g valid rest n → n ≤ size
  pub is : reach ≡ size + one_character (drop size rest)

-- the greatest reach over the places that are tried: this one, and the one after each separator
-- passed
pub data IsSeen (g : FlatGrammar) (valid : List Symbol) : Bool → Bytes → ℕ → Type 0 where
  last : (first : Bool) (rest : Bytes) (reach : ℕ) → ((n : ℕ) → Passes g valid first rest n → ⊥)
      → IsReach g valid rest reach → IsSeen g valid first rest reach
  more : (first : Bool) (rest : Bytes) (n reach seen : ℕ) → Passes g valid first rest n
      → IsReach g valid rest reach → IsSeen g valid false (drop n rest) seen
      → IsSeen g valid first rest (max reach (n + seen))

-- how many bytes are looked at in lexing, from its place on
abbrev pub Seen : FlatGrammar → List Symbol → Bytes → ℕ → Type 0
Seen g valid rest n = IsSeen g valid true rest n

-- the texts have the same first so many bytes, where the end counts as one
abbrev pub Agree : ℕ → Bytes → Bytes → Type 0
Agree n text other = (k : ℕ) → k < n → slice_get text k ≡ slice_get other k
