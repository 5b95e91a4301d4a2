use Rattle.std.proofs.Common.{[]}
use Rattle.ts_fit.specs.Straight.{GoesThrough}
use Rattle.ts_fit.proofs.straight.all_frames.Given as goal

abbrev pub invariant-loop-place : goal.invariant-loop-place
invariant-loop-place l = GoesThrough l.grammar l.place [] l.stack.items
