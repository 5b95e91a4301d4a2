-- What stands behind the separators.
use Rattle.std.specs.Prelude.{ℕ, ◌+◌, ◌≤◌, List, Option, Some, None, MatchOption}
use Rattle.ts_base.specs.Bytes.{Bytes}
use Rattle.ts_core.specs.declared.flat.FlatGrammar.{FlatGrammar}
use Rattle.ts_core.specs.declared.symbol.Symbol.{Symbol}
use Rattle.spec_lexing.specs.Lexing.{Found, token, absent, Lex}
use Rattle.spec_lexing.specs.Seen.{Seen}
use Rattle.ts_lexer.specs.declared.scanned.Match.{Match}
use Rattle.ts_lexer.specs.declared.passing.Passed.{Passed}

-- what was found, behind a pad
abbrev pub found_by : Option Match → ℕ → Found
found_by None pad = absent pad
found_by (Some m) pad = token m.symbol pad m.size

-- this is what lexing comes to, and how far the text was looked at
pub record IsPassed (g : FlatGrammar) (valid : List Symbol) (rest : Bytes)
    (p : Passed) : Type 0 where
  pub lex : Lex g valid rest (found_by p.found p.pad)
  pub seen : Seen g valid rest p.extent

-- what was passed and found ends in a text of so many bytes, and no more was looked at than its end
pub record IsWithinText (size : ℕ) (p : Passed) : Type 0 where
  pub pad : p.pad ≤ size
  pub extent : p.extent ≤ size + 1
  pub found : MatchOption p.found (Unit {0}) (λ m. p.pad + m.size ≤ size)
