use Rattle.std.proofs.Common.{refl, ◌∙◌}
use Rattle.ts_search.specs.Single.{HitsAt}
use Rattle.ts_search.proofs.LimitLemmas.{some_hits_all, some_hits_more, some_hits_none}
use Rattle.ts_search.proofs.single.add_single.Goals as goal

pub loop-n-init : goal.loop-n-init
loop-n-init g c = (refl, some_hits_none (HitsAt c.args.sight.now (g.K.Keep.kept c.args.keep.now) c.args.pattern c.args.item.now) _ _)

pub loop-n-preserved : goal.loop-n-preserved
loop-n-preserved g c = (
  c.in_ok-add_taken.ensures.same ∙ c.loop-n.invariant.0,
  some_hits_more (HitsAt c.args.sight.now (g.K.Keep.kept c.args.keep.now) c.args.pattern c.args.item.now) c.args.siblings.now c.loop-n.n-index 0 _ _ _ _ _ _ c.loop-n-test.true c.loop-n.invariant.1 (rw c.loop-n.invariant.0 at c.in_ok-add_taken.ensures.adds),
)

pub returns-clause-adds : goal.returns-clause-adds
returns-clause-adds g c = some_hits_all (HitsAt c.args.sight.now (g.K.Keep.kept c.args.keep.now) c.args.pattern c.args.item.now) c.args.siblings.now c.loop-n.n-index _ _ _ _ c.loop-n-test.false c.loop-n.invariant.1

pub returns-clause-same : goal.returns-clause-same
returns-clause-same g c = c.loop-n.invariant.0
