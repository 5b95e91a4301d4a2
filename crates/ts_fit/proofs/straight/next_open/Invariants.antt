use Rattle.ts_fit.specs.Straight.{IsSettled}
use Rattle.ts_fit.proofs.straight.next_open.Given as goal

abbrev pub invariant-loop-number : goal.invariant-loop-number
invariant-loop-number l = IsSettled l.grammar l.done.keys l.fn.frame.place l.number
