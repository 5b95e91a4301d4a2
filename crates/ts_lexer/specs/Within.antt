-- Lexing within a piece of a text; for private clauses and proofs alone.
use Rattle.std.specs.Prelude.{ℕ, ◌≤◌, ◌<◌, List, length, drop}
use Rattle.ts_base.specs.Bytes.{Bytes}
use Rattle.ts_core.specs.declared.flat.FlatGrammar.{FlatGrammar}
use Rattle.ts_core.specs.declared.symbol.Symbol.{Symbol}
use Rattle.ts_automata.specs.declared.tables.SetTables.{SetTables}
use Rattle.ts_lexer.specs.declared.within.Leaving.{Leaving}
use Rattle.ts_lexer.specs.declared.passing.Passed.{Passed}
use Rattle.ts_lexer.specs.Passed.{IsPassed, IsWithinText}
use Rattle.ts_lexer.specs.Scanned.{Stays, Turns}

-- from a place of the text on the set leads to itself up to a character, which leads on
pub record Leaves (m : SetTables) (set : ℕ) (text : Bytes) (from : ℕ) (l : Leaving) : Type 0 where
  pub rises : from ≤ l.place
  pub within : l.place < length text
  pub stays : Stays m set (drop from text) (drop l.place text)
  pub turns : Turns m set (drop l.place text) l.turn

-- this is what lexing comes to and how far the text was looked at, and it ends in the text
abbrev pub IsFoundIn : FlatGrammar → List Symbol → Bytes → Passed → Type 0
IsFoundIn g valid text p = IsPassed g valid text p × IsWithinText (length text) p
