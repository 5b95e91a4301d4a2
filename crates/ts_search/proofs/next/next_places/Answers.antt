use Rattle.ts_search.proofs.NextLemmas.{sofar_more, sofar_none}
use Rattle.ts_search.proofs.next.next_places.Goals as goal

pub loop-place-init : goal.loop-place-init
loop-place-init c = sofar_none c.args.row.now c.args.capturing c.next_place-next.result c.in_ok-out.out.items c.in_ok-out.ensures.items c.next_place-next.ensures

pub loop-place-preserved : goal.loop-place-preserved
loop-place-preserved c =
    sofar_more c.args.row.now c.args.capturing c.loop-place.place c.loop-place.next c.next_after-next.result c.loop-place.out.items c.push.new.self.items c.in_ok-push.ensures.items c.next_after-next.ensures c.loop-place.invariant

pub returns : goal.returns
returns c = rw c.from_vec.ensures c.loop-place.invariant.are
