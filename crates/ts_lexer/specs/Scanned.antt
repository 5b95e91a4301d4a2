-- What was found at one place, while its characters are read, and once they have been.
use Rattle.std.specs.Prelude.{◌≡◌, ℕ, ◌≤◌, ◌<◌, ◌<ℤ◌, ◌⊎◌, Bool, true, false, List, [], ◌∷◌, ◌++◌, slice_get, Some, MatchOption}
use Rattle.std.specs.Char.{encode_utf8, len_utf8}
use Rattle.ts_base.specs.Bytes.{Bytes}
use Rattle.ts_core.specs.declared.flat.FlatGrammar.{FlatGrammar}
use Rattle.ts_core.specs.declared.flat.TokenDef.{TokenDef}
use Rattle.ts_core.specs.declared.symbol.Symbol.{Symbol}
use Rattle.spec_lexing.specs.Words.{Regular}
use Rattle.spec_lexing.specs.Matching.{MatchesRe, MatchesSeparator}
use Rattle.spec_lexing.specs.Lexing.{Candidate, Beats, IsBest}
use Rattle.spec_lexing.specs.Seen.{IsReach}
use Rattle.ts_automata.specs.declared.tables.SetTables.{SetTables}
use Rattle.ts_automata.specs.Automata.{parts_of}
use Rattle.ts_automata.specs.Machine.{HasRead, state_count}
use Rattle.ts_lexer.specs.declared.scanned.Match.{Match}
use Rattle.ts_lexer.specs.declared.scanned.Progress.{Progress}
use Rattle.ts_lexer.specs.declared.scanned.Scanned.{Scanned}
use Rattle.ts_lexer.specs.declared.scanned.Turn.{Turn}
use Rattle.ts_lexer.specs.declared.rules.Kind.{Kind}
use Rattle.ts_lexer.specs.Judged.{Offered, IsWordPart, IsSeparatorPart, IsPick, PartWord}

-- the first so many bytes are a word of the part
pub record PartMatches (g : FlatGrammar) (rest : Bytes) (part n : ℕ) : Type 0 where
  pub expression : Regular
  pub at : slice_get (parts_of g) part ≡ Some expression
  pub matches : MatchesRe expression rest n

-- this token, which is no keyword, is taken before all others that match with at most so many bytes
pub record IsFirstPlain (g : FlatGrammar) (valid : List Symbol) (first : Bool) (M : ℕ → ℕ → Type 0)
    (bound : ℕ) (m : Match) : Type 0 where
  pub part : ℕ
  pub token : TokenDef
  pub offered : Offered g valid first false part m.symbol token
  pub matches : M part m.size
  pub within : m.size ≤ bound
  pub best : (k n : ℕ) (s : Symbol) (other : TokenDef) → Offered g valid first false k s other
      → M k n
      → n ≤ bound → Beats token m.symbol m.size other s n

-- what was found among the matches `M`, by part and length, with at most so many bytes
pub record Sofar (g : FlatGrammar) (valid : List Symbol) (first : Bool) (M : ℕ → ℕ → Type 0)
    (bound : ℕ) (p : Progress) : Type 0 where
  pub plain : MatchOption p.plain
      ((k n : ℕ) (s : Symbol) (t : TokenDef) → Offered g valid first false k s t → M k n → n ≤ bound
      → ⊥)
      (IsFirstPlain g valid first M bound)
  pub word_matches : 0 < p.word → (k : ℕ) × IsWordPart g k × M k p.word
  pub word_within : p.word ≤ bound
  pub word_longest : (k n : ℕ) → IsWordPart g k → M k n → n ≤ bound → n ≤ p.word
  pub keyword : IsPick g valid first true (λ k. (0 < p.word) × M k p.word) p.keyword
  pub separator_matches : 0 < p.separator → (k : ℕ) × IsSeparatorPart g k × M k p.separator
  pub separator_within : p.separator ≤ bound
  pub separator_longest : (k n : ℕ) → IsSeparatorPart g k → M k n → n ≤ bound → n ≤ p.separator

-- all that is to be known of a place: the token that is taken, the longest separator (0 where there
-- is none), and how far the text was looked at
pub record IsScanned (g : FlatGrammar) (valid : List Symbol) (first : Bool) (rest : Bytes)
    (s : Scanned) : Type 0 where
  pub best : MatchOption s.best
      ((t : TokenDef) (symbol : Symbol) (n : ℕ) → Candidate g valid first rest t symbol n → ⊥)
      (λ m. IsBest g valid first rest m.symbol m.size)
  pub separator : 0 < s.separator → MatchesSeparator g rest s.separator
  pub longest : (n : ℕ) → MatchesSeparator g rest n → n ≤ s.separator
  pub reach : IsReach g valid rest s.reach

-- more bytes have been read, which are these characters; what matches with more bytes than before
-- has the characters as a word too
pub record IsStep (g : FlatGrammar) (rest : Bytes) (bound next : ℕ) (w : List ℕ) : Type 0 where
  pub rises : bound < next
  pub from : (k n : ℕ) → n ≤ next → PartMatches g rest k n → (n ≤ bound) ⊎ PartWord g w k
  pub now : (k : ℕ) → PartWord g w k → PartMatches g rest k next

-- of two matches of tokens that are no keywords, the second longer, this one is taken
pub record IsLonger (a b : TokenDef) (old new taken : Match) : Type 0 where
  pub kept : b.prec <ℤ a.prec → taken ≡ old
  pub changed : (b.prec <ℤ a.prec → ⊥) → taken ≡ new

-- of two matches, the first is taken, or both are one
abbrev pub BeatsBy : Kind → Symbol → ℕ → Kind → Symbol → ℕ → Type 0
BeatsBy a s m b t n =
    (b.prec <ℤ a.prec)
    ⊎ ((a.prec ≡ b.prec)
    × ((n < m)
    ⊎ ((m ≡ n)
    × (((a.literal ≡ true) × (b.literal ≡ false)) ⊎ ((a.literal ≡ b.literal) × (s.0 ≤ t.0))))))

-- of two matches, this one is taken
pub record IsBetterMatch (a : Kind) (m : Match) (b : Kind) (n taken : Match) : Type 0 where
  pub kept : BeatsBy a m.symbol m.size b n.symbol n.size → taken ≡ m
  pub changed : (BeatsBy a m.symbol m.size b n.symbol n.size → ⊥) → taken ≡ n

-- a text, and what is left of it behind characters over which the set leads to itself
pub data Stays (m : SetTables) (set : ℕ) : Bytes → Bytes → Type 0 where
  unread : (text : Bytes) → Stays m set text text
  past : (text tail later : Bytes) (c : ℕ) → Stays m set text tail → tail ≡ encode_utf8 c ++ later
      → ((w : List ℕ) → HasRead m w set → HasRead m (w ++ c ∷ []) set) → Stays m set text later

-- the text begins with a character of so many bytes, which leads from the set to another
pub record Turns (m : SetTables) (set : ℕ) (text : Bytes) (t : Turn) : Type 0 where
  pub character : ℕ
  pub later : Bytes
  pub spells : text ≡ encode_utf8 character ++ later
  pub len : t.len ≡ len_utf8 character
  pub within : t.to < state_count m
  pub leads : (w : List ℕ) → HasRead m w set → HasRead m (w ++ character ∷ []) t.to
