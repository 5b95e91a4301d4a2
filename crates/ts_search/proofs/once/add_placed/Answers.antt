use Rattle.ts_search.specs.Steps.{Shown}
use Rattle.ts_search.proofs.AddLemmas.{some_all, some_more}
use Rattle.ts_search.proofs.once.add_placed.Goals as goal

pub loop-one-preserved : goal.loop-one-preserved
loop-one-preserved c = some_more (Shown c.args.first c.args.near) c.args.lists.now c.loop-one.one-index c.one-item.result _ _ _ c.loop-one-test.true c.one-item.is c.loop-one.invariant (rw c.as_slice.ensures at c.in_ok-add_shown.ensures)

pub returns : goal.returns
returns c = some_all (Shown c.args.first c.args.near) c.args.lists.now c.loop-one.one-index _ _ c.loop-one-test.false c.loop-one.invariant
