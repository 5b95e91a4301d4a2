use Rattle.ts_search.proofs.NextLemmas.{first_more}
use Rattle.ts_search.proofs.next.next_of_all.Goals as goal

pub loop-rows-preserved : goal.loop-rows-preserved
loop-rows-preserved c =
    first_more c.args.table.now c.args.capturing c.loop-rows.rows-index c.rows-item.result c.in_ok-next.next c.loop-rows.out.items c.push.new.self.items c.loop-rows-test.true c.rows-item.is c.in_ok-push.ensures.items
    (rw c.as_slice.ensures at c.in_ok-next.ensures) c.loop-rows.invariant

pub returns : goal.returns
returns c = rw c.from_vec.ensures c.loop-rows.invariant.are
