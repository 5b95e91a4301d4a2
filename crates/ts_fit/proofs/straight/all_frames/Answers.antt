use Rattle.ts_fit.proofs.StraightLemmas.{running_more}
use Rattle.ts_fit.proofs.straight.all_frames.Goals as goal
use Rattle.std.proofs.Common.{arith}

pub loop-place-preserved : goal.loop-place-preserved
loop-place-preserved c =
    running_more c.args.grammar.now c.loop-place.place c.loop-place.stack.items c.push.new.self.items (omega (arith, c.loop-place-test.true, c.len-place-end.ensures)) c.in_ok-push.ensures.items c.loop-place.invariant
