-- What is known once some characters have been read. The parts of a grammar are its tokens and then
-- its separators, by number.
use Rattle.std.specs.Prelude.{◌≡◌, ℕ, ◌+◌, suc, Bool, true, false, List, length, slice_get, Option, Some, MatchOption, IsTrue, ◌↔◌}
use Rattle.std.specs.List.{Contains}
use Rattle.ts_core.specs.declared.flat.FlatGrammar.{FlatGrammar}
use Rattle.ts_core.specs.declared.flat.TokenDef.{TokenDef}
use Rattle.ts_core.specs.declared.re.Re.{Re}
use Rattle.ts_core.specs.declared.symbol.Symbol.{Symbol}
use Rattle.spec_lexing.specs.Words.{Regular, Word, Front}
use Rattle.spec_lexing.specs.Seen.{HasKeyword}
use Rattle.ts_automata.specs.declared.automaton.Automaton.{Automaton}
use Rattle.ts_automata.specs.declared.node.Node.{Node}
use Rattle.ts_automata.specs.Reads.{IsEnd}
use Rattle.ts_automata.specs.Automata.{parts_of}
use Rattle.ts_lexer.specs.declared.verdict.Verdict.{Verdict}
use Rattle.ts_lexer.specs.Rules.{kind_of, Over}

-- the part is this token
pub record IsTokenPart (g : FlatGrammar) (part : ℕ) (symbol : Symbol)
    (token : TokenDef) : Type 0 where
  pub number : symbol.0 ≡ suc part
  pub at : slice_get g.tokens part ≡ Some token

-- the part is a valid token, a keyword or none, that may stand at the place
pub record Offered (g : FlatGrammar) (valid : List Symbol) (first keyword : Bool) (part : ℕ)
    (symbol : Symbol) (token : TokenDef) : Type 0 where
  pub is_valid : Contains valid symbol
  pub is_token : IsTokenPart g part symbol token
  pub immediate : token.immediate ≡ true → first ≡ true
  pub kind : token.keyword ≡ keyword

-- the fronts of the part count: a valid token, the word token where a keyword is valid, or a
-- separator
pub data Wanted (g : FlatGrammar) (valid : List Symbol) (part : ℕ) : Type 0 where
  valid_token : (symbol : Symbol) (token : TokenDef) → Contains valid symbol
      → IsTokenPart g part symbol token → Wanted g valid part
  word_token : HasKeyword g valid → (symbol : Symbol) (token : TokenDef) → g.word ≡ Some symbol
      → IsTokenPart g part symbol token → Wanted g valid part
  a_separator : (place : ℕ) (separator : Re) → part ≡ length g.tokens + place
      → slice_get g.separators place ≡ Some separator → Wanted g valid part

-- the part is the word token
pub record IsWordPart (g : FlatGrammar) (part : ℕ) : Type 0 where
  pub symbol : Symbol
  pub token : TokenDef
  pub word : g.word ≡ Some symbol
  pub is_token : IsTokenPart g part symbol token

-- the part is a separator
pub record IsSeparatorPart (g : FlatGrammar) (part : ℕ) : Type 0 where
  pub place : ℕ
  pub separator : Re
  pub number : part ≡ length g.tokens + place
  pub at : slice_get g.separators place ≡ Some separator

-- of the parts that end, this token is taken
pub record IsPicked (g : FlatGrammar) (valid : List Symbol) (first keyword : Bool)
    (Ends : ℕ → Type 0) (symbol : Symbol) : Type 0 where
  pub part : ℕ
  pub token : TokenDef
  pub offered : Offered g valid first keyword part symbol token
  pub ends : Ends part
  pub best : (k : ℕ) (s : Symbol) (other : TokenDef) → Offered g valid first keyword k s other
      → Ends k
      → Over (kind_of token) symbol (kind_of other) s

-- this token is taken, or there is none to take
abbrev pub IsPick : FlatGrammar → List Symbol → Bool → Bool → (ℕ → Type 0) → Option Symbol → Type 0
IsPick g valid first keyword Ends pick =
    MatchOption pick
    ((k : ℕ) (s : Symbol) (token : TokenDef) → Offered g valid first keyword k s token → Ends k → ⊥)
    (IsPicked g valid first keyword Ends)

-- what is known where these parts end, and these are alive
pub record JudgesParts (g : FlatGrammar) (valid : List Symbol) (first : Bool) (Ends Lives : ℕ
    → Type 0)
    (v : Verdict) : Type 0 where
  pub plain : IsPick g valid first false Ends v.plain
  pub keyword : IsPick g valid first true Ends v.keyword
  pub word : IsTrue v.word ↔ ((k : ℕ) × IsWordPart g k × Ends k)
  pub separator : IsTrue v.separator ↔ ((k : ℕ) × IsSeparatorPart g k × Ends k)
  pub lives : IsTrue v.lives ↔ ((k : ℕ) × Wanted g valid k × Lives k)

-- the part has the characters as a word
pub record PartWord (g : FlatGrammar) (w : List ℕ) (part : ℕ) : Type 0 where
  pub expression : Regular
  pub at : slice_get (parts_of g) part ≡ Some expression
  pub word : Word expression w

-- the part can begin with the characters
pub record PartFront (g : FlatGrammar) (w : List ℕ) (part : ℕ) : Type 0 where
  pub expression : Regular
  pub at : slice_get (parts_of g) part ≡ Some expression
  pub front : Front expression w

-- what is known once these characters have been read
abbrev pub Knows : FlatGrammar → List Symbol → Bool → List ℕ → Verdict → Type 0
Knows g valid first w v = JudgesParts g valid first (PartWord g w) (PartFront g w) v

-- the nodes have an end of the part
pub record EndsIn (T : List Node) (owners seen : List ℕ) (part : ℕ) : Type 0 where
  pub node : ℕ
  pub there : Contains seen node
  pub owner : slice_get owners node ≡ Some part
  pub end : IsEnd T node

-- the nodes have one of the part
pub record LivesIn (owners seen : List ℕ) (part : ℕ) : Type 0 where
  pub node : ℕ
  pub there : Contains seen node
  pub owner : slice_get owners node ≡ Some part

-- what is known of these nodes of an automaton
abbrev pub JudgesNodes : FlatGrammar → List Symbol → Bool → Automaton → List ℕ → Verdict → Type 0
JudgesNodes g valid first a seen v =
    JudgesParts g valid first (EndsIn a.nodes.items a.owners.items seen)
    (LivesIn a.owners.items seen) v
