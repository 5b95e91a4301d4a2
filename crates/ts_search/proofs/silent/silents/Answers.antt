use Rattle.ts_search.proofs.SilentLemmas.{marked_more, marked_none}
use Rattle.ts_search.proofs.silent.silents.Goals as goal

pub loop-rows-init : goal.loop-rows-init
loop-rows-init c = marked_none c.args.table.now c.in_ok-out.out.items c.in_ok-out.ensures.items

pub loop-rows-preserved : goal.loop-rows-preserved
loop-rows-preserved c =
    marked_more c.args.table.now c.loop-rows.rows-index c.rows-item.result c.are_silent_rows.result c.loop-rows.out.items c.push.new.self.items c.loop-rows-test.true c.rows-item.is c.in_ok-push.ensures.items
    (rw c.as_slice.ensures at c.are_silent_rows.ensures) c.loop-rows.invariant

pub returns : goal.returns
returns c = rw c.from_vec.ensures c.loop-rows.invariant.are
