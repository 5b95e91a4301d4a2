-- Lexing of a text, from a place on, for a set of valid tokens.
use Rattle.std.specs.Prelude.{◌≡◌, ℕ, ◌+◌, ◌≤◌, ◌<◌, ◌<ℤ◌, ◌⊎◌, Bool, true, false, List, [], drop}
use Rattle.std.specs.List.{Contains}
use Rattle.ts_base.specs.Bytes.{Bytes}
use Rattle.ts_core.specs.declared.flat.FlatGrammar.{FlatGrammar}
use Rattle.ts_core.specs.declared.flat.TokenDef.{TokenDef}
use Rattle.ts_core.specs.declared.symbol.Symbol.{Symbol}
use Rattle.spec_lexing.specs.Matching.{IsTokenOf, MatchesToken, MatchesSeparator}

-- the end of the text, as a symbol
abbrev pub end_symbol : Symbol
end_symbol = record { 0 = 0 }

-- A valid token matches with so many bytes. An immediate token is tried at the first place alone,
-- and not after a separator.
pub record Candidate (g : FlatGrammar) (valid : List Symbol) (first : Bool) (rest : Bytes)
    (token : TokenDef) (symbol : Symbol) (n : ℕ) : Type 0 where
  pub is_valid : Contains valid symbol
  pub is_token : IsTokenOf g symbol token
  pub immediate : token.immediate ≡ true → first ≡ true
  pub matches : MatchesToken g token rest n

-- of two matches of one length, the first is taken: a literal before another, then the smaller
-- symbol
abbrev pub Precedes : TokenDef → Symbol → TokenDef → Symbol → Type 0
Precedes a s b t =
    ((a.literal ≡ true) × (b.literal ≡ false)) ⊎ ((a.literal ≡ b.literal) × (s.0 ≤ t.0))

-- of two matches, with their lengths, the first is taken, or both are one: the higher precedence
-- goes before the longer match
abbrev pub Beats : TokenDef → Symbol → ℕ → TokenDef → Symbol → ℕ → Type 0
Beats a s m b t n =
    (b.prec <ℤ a.prec) ⊎ ((a.prec ≡ b.prec) × ((n < m) ⊎ ((m ≡ n) × Precedes a s b t)))

-- the token is taken, with so many bytes, before all others that match
pub record IsBest (g : FlatGrammar) (valid : List Symbol) (first : Bool) (rest : Bytes)
    (symbol : Symbol) (n : ℕ) : Type 0 where
  pub token : TokenDef
  pub candidate : Candidate g valid first rest token symbol n
  pub best : (other : TokenDef) (t : Symbol) (m : ℕ) → Candidate g valid first rest other t m
      → Beats token symbol n other t m

-- no valid token matches
pub record NoneMatches (g : FlatGrammar) (valid : List Symbol) (first : Bool)
    (rest : Bytes) : Type 0 where
  pub tokens : (token : TokenDef) (symbol : Symbol) (n : ℕ)
      → Candidate g valid first rest token symbol n → ⊥
  pub end : rest ≡ [] → Contains valid end_symbol → ⊥

-- no valid token matches, and the longest match of a separator is passed
pub record Passes (g : FlatGrammar) (valid : List Symbol) (first : Bool) (rest : Bytes)
    (n : ℕ) : Type 0 where
  pub none : NoneMatches g valid first rest
  pub separator : MatchesSeparator g rest n
  pub longest : (m : ℕ) → MatchesSeparator g rest m → m ≤ n

-- What lexing comes to: a token behind a pad of separators, or none, where the place after the
-- separators is so many bytes away. The pad and the place are counted from where lexing began.
pub data Found : Type 0 where
  token : Symbol → ℕ → ℕ → Found
  absent : ℕ → Found

-- the same, seen from so many bytes before
abbrev pub behind : ℕ → Found → Found
behind n (token symbol pad size) = token symbol (n + pad) size
behind n (absent place) = absent (n + place)

-- What lexing comes to at the first place that is tried, or at a later one.
pub data Lexes (g : FlatGrammar) (valid : List Symbol) : Bool → Bytes → Found → Type 0 where
  takes : (first : Bool) (rest : Bytes) (symbol : Symbol) (size : ℕ)
      → IsBest g valid first rest symbol size → Lexes g valid first rest (token symbol 0 size)
  ends : (first : Bool) → Contains valid end_symbol
      → Lexes g valid first [] (token end_symbol 0 0)
  passes : (first : Bool) (rest : Bytes) (n : ℕ) (found : Found)
      → Passes g valid first rest n → Lexes g valid false (drop n rest) found
      → Lexes g valid first rest (behind n found)
  stops : (first : Bool) (rest : Bytes) → NoneMatches g valid first rest
      → ((n : ℕ) → MatchesSeparator g rest n → ⊥) → Lexes g valid first rest (absent 0)

-- what lexing comes to
abbrev pub Lex : FlatGrammar → List Symbol → Bytes → Found → Type 0
Lex g valid rest found = Lexes g valid true rest found
