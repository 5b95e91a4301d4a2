-- Texts that were parsed at once, each with a lexer of its own.
use Rattle.std.specs.Prelude.{◌≡◌, ℕ, List, length, slice_get, Some, Result, IfOk}
use Rattle.atomic_table.specs.Seated.{TableId}
use Rattle.ts_base.specs.Bytes.{Bytes}
use Rattle.ts_table.specs.declared.view.ParseTable.{ParseTable}
use Rattle.ts_lexer.specs.Lexers.{IsLexerOf}
use Rattle.ts_lexer.specs.declared.lexer.Lexer.{Lexer}
use Rattle.ts_docs.specs.Versions.{IsTextOf}
use Rattle.ts_script.specs.declared.plan.Plan.{Plan}
use Rattle.ts_workers.specs.declared.front.Front.{Front}
use Rattle.ts_workers.specs.declared.parsed.Parsed.{Parsed}
use Rattle.ts_workers.specs.Fronts.{AreFronts}

-- the first version of the text, and a lexer of the table
pub record IsParsed (table : ParseTable) (text : Bytes) (p : Parsed) : Type 0 where
  pub lexer : IsLexerOf p.lexer table
  pub version : IsTextOf table 0 text p.version

-- each of these texts was parsed, if there was the memory for it
pub record AreParsed {E : Type 0} (table : ParseTable) (texts : List Bytes)
    (all : List (Result Parsed E)) : Type 0 where
  pub count : length all ≡ length texts
  pub each : (place : ℕ) (text : Bytes) (r : Result Parsed E) → slice_get texts place ≡ Some text
      → slice_get all place ≡ Some r → IfOk r (IsParsed table text)

-- all of these lexers were made for the table
abbrev pub AreLexersOf : ParseTable → List Lexer → Type 0
AreLexersOf table lexers =
    (place : ℕ) (l : Lexer) → slice_get lexers place ≡ Some l → IsLexerOf l table

-- ---- part of the texts, which serves proofs alone

-- what is kept of the documents whose texts were parsed
abbrev pub AreOpened : {E : Type 0} → ParseTable → Plan → List TableId → List Front
    → List (Result Parsed E) → Type 0
AreOpened {E} table plan shelves fronts all = (texts : List Bytes) → AreParsed table texts all
    → AreFronts plan table texts shelves 0 fronts

-- the lexers with which the texts were parsed
abbrev pub AreLeft : {E : Type 0} → ParseTable → List Lexer → List (Result Parsed E) → Type 0
AreLeft {E} table lexers all =
    (texts : List Bytes) → AreParsed table texts all → AreLexersOf table lexers
