use Rattle.ts_lexer.specs.States.{AreActing}
use Rattle.ts_lexer.proofs.states.acting.Given as goal

abbrev pub invariant-loop-number : goal.invariant-loop-number
invariant-loop-number l = AreActing l.table l.state l.valid.items l.number
