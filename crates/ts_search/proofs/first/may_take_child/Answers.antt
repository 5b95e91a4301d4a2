use Rattle.std.proofs.Common.{arith, refl}
use Rattle.ts_search.proofs.FirstLemmas.{untaken_all, untaken_more, untaken_none}
use Rattle.ts_search.proofs.first.may_take_child.Goals as goal

pub loop-m-init : goal.loop-m-init
loop-m-init c = record { ends = c.past-past.ensures; untaken = untaken_none c.args.sight.now c.args.item.now c.args.n c.past-past.result c.past-past.ensures }

pub past-m-requires : goal.past-m-requires
past-m-requires c = let w = c.past-past.ensures.within in omega (arith, c.loop-m-test.true)

pub loop-m-smaller : goal.loop-m-smaller
loop-m-smaller c = let l = c.past-m.ensures.later in omega (arith, c.loop-m-test.true)

pub loop-m-preserved : goal.loop-m-preserved
loop-m-preserved c = record {
  ends = c.loop-m.invariant.ends;
  untaken = untaken_more c.args.sight.now c.args.item.now c.args.n c.past-past.result c.loop-m.invariant.ends c.loop-m.m c.past-m.result c.may_take.result c.loop-m-test.true c.past-m.ensures c.may_take.ensures c.if-may_take.false c.loop-m.invariant.untaken;
}

pub returns-then-may_take : goal.returns-then-may_take
returns-then-may_take c = λ m ways parent takes. refl

pub returns : goal.returns
returns c = λ m ways parent takes. absurd (untaken_all c.args.sight.now c.args.item.now c.args.n c.past-past.result c.loop-m.invariant.ends c.loop-m.m (omega (arith, c.loop-m-test.false)) c.loop-m.invariant.untaken m ways parent takes)
