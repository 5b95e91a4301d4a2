use Rattle.ts_search.proofs.IndexLemmas.{in_all, in_more, in_none}
use Rattle.ts_search.proofs.index.groups_of.Goals as goal

pub loop-one-init : goal.loop-one-init
loop-one-init c = in_none c.new-groups.result.items c.new-groups.ensures.items

pub loop-one-preserved : goal.loop-one-preserved
loop-one-preserved c = in_more c.as_slice-one-items.result.now c.loop-one.one-index _ c.loop-one.groups.items _ c.loop-one-test.true c.loop-one.invariant c.in_ok-put.ensures

pub returns : goal.returns
returns c = in_all c.args.patterns.now c.as_slice-one-items.result.now c.loop-one.one-index c.loop-one.groups.items c.loop-one-test.false (rw c.as_slice-one-items.ensures.value c.in_ok-all.ensures) c.loop-one.invariant
