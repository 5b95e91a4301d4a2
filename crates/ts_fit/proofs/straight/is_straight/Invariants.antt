use Rattle.std.proofs.Common.{length}
use Rattle.ts_fit.specs.Straight.{GoesThrough}
use Rattle.ts_fit.proofs.straight.is_straight.Given as goal

abbrev pub invariant-loop-turn : goal.invariant-loop-turn
invariant-loop-turn l = GoesThrough l.grammar (length l.grammar.rules) l.done.keys l.stack.items
