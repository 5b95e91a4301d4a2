use Rattle.std.proofs.Common.{arith}
use Rattle.ts_fit.proofs.RepeatLemmas.{repeated}
use Rattle.ts_fit.proofs.repetitions.repeats.Goals as goal

pub returns : goal.returns
returns c =
    repeated c.args.symbol c.args.productions.now _ c.loop-place.place (omega (arith, c.if-half-eq0.false)) (omega (arith, c.if-productions-half.false)) c.loop-place.invariant.0 (omega (arith, c.loop-place-test.false))
    c.loop-place.invariant.1
