use Rattle.ts_search.specs.Steps.{JoinedTo}
use Rattle.ts_search.proofs.AddLemmas.{some_more, some_all}
use Rattle.ts_search.proofs.products.add_behind.Goals as goal

pub loop-front-preserved : goal.loop-front-preserved
loop-front-preserved c = some_more (JoinedTo c.args.back.now) c.args.fronts.now c.loop-front.front-index c.front-item.result _ _ _ c.loop-front-test.true c.front-item.is c.loop-front.invariant (rw c.as_slice.ensures at c.in_ok-add.ensures)

pub returns : goal.returns
returns c = some_all (JoinedTo c.args.back.now) c.args.fronts.now c.loop-front.front-index _ _ c.loop-front-test.false c.loop-front.invariant
