use Rattle.std.proofs.Common.{◌≡◌, refl, ◌∙◌, sym, length, rules}
use Rattle.std.proofs.lemmas.Iterator.Adapters.{YieldsList-from_vec}
use Rattle.std.proofs.lemmas.Iterator.Consumers.{YieldsList-end}
use Rattle.std.specs.Vec.Iter.{into_iter_len}
use Rattle.ts_search.specs.Single.{HitAt}
use Rattle.ts_search.proofs.GatherLemmas.{hits_none, hits_whole, push_more}
use Rattle.ts_search.proofs.TakeLemmas.{map_same}
use Rattle.ts_search.proofs.single.add_ways.Goals as goal

pub loop-way-init : goal.loop-way-init
loop-way-init g c = (refl, hits_none (HitAt (g.K.Keep.kept c.args.keep.now) c.args.pattern c.args.n) _)

pub loop-way-preserved : goal.loop-way-preserved
loop-way-preserved g c = (
  c.in_ok-add_way.ensures.same ∙ c.loop-way.invariant.0,
  push_more (HitAt (g.K.Keep.kept c.args.keep.now) c.args.pattern c.args.n) c.loop-way.yielded c.in-Some.way _ _ _ c.loop-way.invariant.1 (rw c.loop-way.invariant.0 at c.in_ok-add_way.ensures.adds),
)

pub returns-clause-adds : goal.returns-clause-adds
returns-clause-adds g c =
    let len : into_iter_len c.into_iter-way-iterator.result ≡ length c.args.ways.items = search rules in
    let road = YieldsList-from_vec c.args.ways.items c.into_iter-way-iterator.ensures.into_iter_gives.0 len in
    let end = YieldsList-end road c.loop-way.yielded c.loop-way.way-iterator c.loop-way.yielded_by c.next.result c.next.new.self c.in-None.is c.next.ensures.steps in
    let whole : c.loop-way.yielded ≡ c.args.ways.items = sym (map_same c.loop-way.yielded) ∙ end.0 in
    hits_whole (HitAt (g.K.Keep.kept c.args.keep.now) c.args.pattern c.args.n) c.loop-way.yielded c.args.ways.items _ _ whole c.loop-way.invariant.1

pub returns-clause-same : goal.returns-clause-same
returns-clause-same g c = c.loop-way.invariant.0
