use Rattle.std.proofs.Common.{arith}
use Rattle.ts_items.proofs.EachLemmas.{empties_none, empties_more}
use Rattle.ts_items.proofs.rows.empty_rows.Goals as goal

pub loop-init : goal.loop-init
loop-init g c = rw c.new-rows.ensures.items empties_none

pub loop-preserved : goal.loop-preserved
loop-preserved g c = rw c.in_ok-push.ensures.items (empties_more c.loop.counter c.loop.rows.items _ c.loop.invariant c.new.ensures.items)

pub returns-clause-count : goal.returns-clause-count
returns-clause-count g c = let e = c.loop.invariant.size in let a = c.loop-test.false in let b = c.loop.auto.counter-end in omega arith

pub returns-clause-empty : goal.returns-clause-empty
returns-clause-empty g c = c.loop.invariant.empty
