use Rattle.std.proofs.Common.{◌≡◌, ◌∙◌, sym, length, rules}
use Rattle.std.proofs.lemmas.Iterator.Adapters.{YieldsList-from_vec}
use Rattle.std.proofs.lemmas.Iterator.Consumers.{YieldsList-end}
use Rattle.std.specs.Vec.Iter.{into_iter_len}
use Rattle.ts_search.proofs.SetLemmas.{sets_all, sets_more, sets_none}
use Rattle.ts_search.proofs.TakeLemmas.{map_same}
use Rattle.ts_search.proofs.once.sets.Goals as goal

pub loop-list-init : goal.loop-list-init
loop-list-init c = sets_none c.in_ok-out.out.items c.in_ok-out.ensures.items

pub loop-list-preserved : goal.loop-list-preserved
loop-list-preserved c = sets_more c.loop-list.yielded c.loop-list.out.items c.push.new.self.items c.in-Some.list c.in_order.result c.in_ok-push.ensures.items c.in_order.ensures.members c.loop-list.invariant

pub returns : goal.returns
returns c =
    let len : into_iter_len c.into_iter-list-iterator.result ≡ length c.args.lists.items = search rules in
    let road = YieldsList-from_vec c.args.lists.items c.into_iter-list-iterator.ensures.into_iter_gives.0 len in
    let end = YieldsList-end road c.loop-list.yielded c.loop-list.list-iterator c.loop-list.yielded_by c.next.result c.next.new.self c.in-None.is c.next.ensures.steps in
    let whole : c.loop-list.yielded ≡ c.args.lists.items = sym (map_same c.loop-list.yielded) ∙ end.0 in
    sets_all c.loop-list.yielded c.args.lists.items c.loop-list.out.items c.once_each.result.items whole c.once_each.ensures c.loop-list.invariant
