use Rattle.std.proofs.Common.{arith}
use Rattle.ts_items.proofs.GainLemmas.{empties_none, empties_more}
use Rattle.ts_items.proofs.sets.empty_sets.Goals as goal

pub loop-init : goal.loop-init
loop-init c = rw c.new-sets.ensures.items (empties_none c.args.width)

pub loop-preserved : goal.loop-preserved
loop-preserved c = rw c.in_ok-push.ensures.items (empties_more c.args.width c.loop.counter c.loop.sets.items _ c.loop.invariant c.in_ok-new.ensures.wide c.in_ok-new.ensures.empty)

pub returns-clause-count : goal.returns-clause-count
returns-clause-count c = let e = c.loop.invariant.size in let a = c.loop-test.false in let b = c.loop.auto.counter-end in omega arith

pub returns-clause-wide : goal.returns-clause-wide
returns-clause-wide c = c.loop.invariant.wide

pub returns-clause-empty : goal.returns-clause-empty
returns-clause-empty c = c.loop.invariant.empty
