-- What a lexer stands for.
use Rattle.std.specs.Prelude.{ℕ}
use Rattle.ts_table.specs.declared.view.ParseTable.{ParseTable}
use Rattle.ts_lexer.specs.declared.lexer.Lexer.{Lexer}
use Rattle.ts_lexer.specs.Ahead.{contents_of}
use Rattle.ts_lexer.specs.Engines.{IsEngine}
use Rattle.ts_lexer.specs.States.{HaveLists}

-- the lexer was made for the table
pub record IsLexerOf (l : Lexer) (t : ParseTable) : Type 0 where
  pub engine : IsEngine t.grammar l.engine
  pub lists : HaveLists t (contents_of l.engine.lists.keys) l.numbers.items

-- how many bytes it has looked at since it was made
abbrev pub examined_of : Lexer → ℕ
examined_of l = l.examined
