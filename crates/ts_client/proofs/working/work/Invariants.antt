use Rattle.std.proofs.Common.{◌-◌, length}
use Rattle.ts_lexer.specs.Lexers.{IsLexerOf}
use Rattle.ts_replay.specs.Sights.{StandsFor}
use Rattle.ts_client.specs.Between.{AreAtDesks}
use Rattle.ts_client.proofs.working.work.Given as goal

abbrev pub invariant-loop-steps : goal.invariant-loop-steps
invariant-loop-steps g l = record {
  lexer : IsLexerOf l.lexer l.table;
  at : AreAtDesks (g.F.Finder.finds l.finder) l.plan l.table l.number l.steps l.shelves l.fn.client.desks.items l.client;
  kept : StandsFor (g.F.Finder.form l.finder) l.kept;
}

abbrev pub decreases-loop-steps : goal.decreases-loop-steps
decreases-loop-steps g l = length l.steps - length l.client.replies.items
