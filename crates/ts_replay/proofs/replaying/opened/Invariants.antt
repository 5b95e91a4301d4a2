use Rattle.ts_lexer.specs.Lexers.{IsLexerOf}
use Rattle.ts_replay.specs.Running.{AreOpened}
use Rattle.ts_replay.proofs.replaying.opened.Given as goal

abbrev pub invariant-loop-text : goal.invariant-loop-text
invariant-loop-text l = record {
  lexer : IsLexerOf l.lexer l.table;
  opened : AreOpened l.plan l.table l.yielded l.documents.items;
}
