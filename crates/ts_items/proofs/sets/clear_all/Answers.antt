use Rattle.std.proofs.Common.{arith}
use Rattle.ts_items.proofs.GainLemmas.{emptied_more, emptied_all}
use Rattle.ts_items.proofs.sets.clear_all.Goals as goal

pub loop-at-preserved : goal.loop-at-preserved
loop-at-preserved c = emptied_more c.args.sets.now c.loop-at.sets c.loop-at.at c.index-sets-at.result c.clear.new.self (omega (arith, c.loop-at-test.true, c.loop-at.invariant.count)) c.loop-at.invariant c.clear.ensures.empty c.clear.ensures.wide

pub returns-clause-empty : goal.returns-clause-empty
returns-clause-empty c = emptied_all c.args.sets.now c.loop-at.sets c.loop-at.at (omega (arith, c.loop-at-test.false, c.loop-at.invariant.count)) c.loop-at.invariant
