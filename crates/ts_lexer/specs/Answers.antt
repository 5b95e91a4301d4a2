-- What is answered at a place of a text.
use Rattle.std.specs.Prelude.{◌≡◌, ℕ, ◌+◌, List, drop}
use Rattle.ts_base.specs.Bytes.{Bytes}
use Rattle.ts_core.specs.declared.flat.FlatGrammar.{FlatGrammar}
use Rattle.ts_core.specs.declared.symbol.Symbol.{Symbol}
use Rattle.spec_lexing.specs.Lexing.{Found, token, absent, Lex}
use Rattle.spec_lexing.specs.Seen.{Seen}
use Rattle.ts_table.specs.declared.view.ParseTable.{ParseTable}
use Rattle.ts_lexer.specs.States.{AreValid}
use Rattle.ts_lexer.specs.declared.lexed.Lexed.{Lexed}
use Rattle.ts_lexer.specs.declared.lexed.Lexed.TheVariants.{Token, Absent}

-- the answer says this of a lexing that began at the place
abbrev pub SaysFound : ℕ → Lexed → Found → Type 0
SaysFound start (Token symbol pad size extent) found = found ≡ token symbol pad size
SaysFound start (Absent place extent) found = (n : ℕ) × (place ≡ start + n) × (found ≡ absent n)

-- how many bytes were looked at
abbrev pub extent_of : Lexed → ℕ
extent_of (Token symbol pad size extent) = extent
extent_of (Absent place extent) = extent

-- the answer is what lexing comes to, and how far it looked
pub record IsLexedAnswer (g : FlatGrammar) (valid : List Symbol) (text : Bytes) (place : ℕ)
    (lexed : Lexed) : Type 0 where
  pub found : Found
  pub lex : Lex g valid (drop place text) found
  pub says : SaysFound place lexed found
  pub seen : Seen g valid (drop place text) (extent_of lexed)

-- this is what lexing comes to among the valid tokens of the state
pub record LexesIn (t : ParseTable) (state : ℕ) (rest : Bytes) (found : Found) : Type 0 where
  pub valid : List Symbol
  pub are_valid : AreValid t state valid
  pub lex : Lex t.grammar valid rest found

-- the answer is what lexing comes to among the valid tokens of the state, and how far it looked
pub record IsLexedAt (t : ParseTable) (state : ℕ) (text : Bytes) (place : ℕ)
    (lexed : Lexed) : Type 0 where
  pub valid : List Symbol
  pub are_valid : AreValid t state valid
  pub answer : IsLexedAnswer t.grammar valid text place lexed
