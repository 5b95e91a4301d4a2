use Rattle.std.proofs.Common.{arith}
use Rattle.ts_fit.proofs.StraightLemmas.{settled_all, settled_more}
use Rattle.ts_fit.proofs.straight.next_open.Goals as goal

pub loop-number-preserved : goal.loop-number-preserved
loop-number-preserved c =
    settled_more c.args.grammar.now c.args.done.now.keys c.args.frame.place c.loop-number.number c.get.result.now c.as_slice-productions.result.now c.index-productions-number.result c.get.ensures
    c.as_slice-productions.ensures (omega (arith, c.loop-number-test.true)) c.index-productions-number.is c.in_default.ensures.none c.loop-number.invariant

pub returns-clause-none : goal.returns-clause-none
returns-clause-none c =
    settled_all c.args.grammar.now c.args.done.now.keys c.args.frame.place c.loop-number.number c.get.result.now c.as_slice-productions.result.now c.get.ensures c.as_slice-productions.ensures
    (omega (arith, c.loop-number-test.false)) c.loop-number.invariant
