use Rattle.std.proofs.Common.{arith}
use Rattle.ts_fit.proofs.RepeatLemmas.{formed_more, formed_all}
use Rattle.ts_fit.proofs.repetitions.first_bad_repetition.Goals as goal

pub loop-place-preserved : goal.loop-place-preserved
loop-place-preserved c = formed_more c.args.grammar.now c.loop-place.place c.loop-place.invariant (c.is_bad.ensures.fit c.if-is_bad.false)

pub returns-clause-none : goal.returns-clause-none
returns-clause-none c = formed_all c.args.grammar.now c.loop-place.place (omega (arith, c.len-place-end.ensures, c.loop-place-test.false)) c.loop-place.invariant
