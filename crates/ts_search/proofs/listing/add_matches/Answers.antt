use Rattle.std.proofs.Common.{◌≡◌, refl, ◌∙◌, sym, length, rules}
use Rattle.std.proofs.lemmas.Iterator.Adapters.{YieldsList-from_vec}
use Rattle.std.proofs.lemmas.Iterator.Consumers.{YieldsList-end}
use Rattle.std.specs.Vec.Iter.{into_iter_len}
use Rattle.ts_search.specs.Gathering.{Hits}
use Rattle.ts_search.proofs.GatherLemmas.{hits_none, hits_whole, push_more}
use Rattle.ts_search.proofs.TakeLemmas.{map_same}
use Rattle.ts_search.proofs.listing.add_matches.Goals as goal

pub loop-one-init : goal.loop-one-init
loop-one-init g c = (refl, hits_none (Hits (g.K.Keep.kept c.args.keep.now) c.args.pattern c.args.siblings.now) _)

pub loop-one-preserved : goal.loop-one-preserved
loop-one-preserved g c = (
  c.in_ok-add_match.ensures.same ∙ c.loop-one.invariant.0,
  push_more (Hits (g.K.Keep.kept c.args.keep.now) c.args.pattern c.args.siblings.now) c.loop-one.yielded c.in-Some.one _ _ _ c.loop-one.invariant.1 (rw c.loop-one.invariant.0 at c.in_ok-add_match.ensures.adds),
)

pub returns-clause-adds : goal.returns-clause-adds
returns-clause-adds g c =
    let len : into_iter_len c.into_iter-one-iterator.result ≡ length c.args.found.items = search rules in
    let road = YieldsList-from_vec c.args.found.items c.into_iter-one-iterator.ensures.into_iter_gives.0 len in
    let end = YieldsList-end road c.loop-one.yielded c.loop-one.one-iterator c.loop-one.yielded_by c.next.result c.next.new.self c.in-None.is c.next.ensures.steps in
    let whole : c.loop-one.yielded ≡ c.args.found.items = sym (map_same c.loop-one.yielded) ∙ end.0 in
    hits_whole (Hits (g.K.Keep.kept c.args.keep.now) c.args.pattern c.args.siblings.now) c.loop-one.yielded c.args.found.items _ _ whole c.loop-one.invariant.1

pub returns-clause-same : goal.returns-clause-same
returns-clause-same g c = c.loop-one.invariant.0
