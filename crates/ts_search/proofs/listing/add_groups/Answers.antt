use Rattle.std.proofs.Common.{refl, ◌∙◌}
use Rattle.ts_search.specs.Visits.{HitsOfGroup}
use Rattle.ts_search.proofs.GatherLemmas.{hits_none, hits_more, hits_all}
use Rattle.ts_search.proofs.listing.add_groups.Goals as goal

pub loop-group-init : goal.loop-group-init
loop-group-init g c = (refl, hits_none (HitsOfGroup c.args.sight.now (g.K.Keep.kept c.args.keep.now) c.args.patterns.now c.args.n) _)

pub loop-group-preserved : goal.loop-group-preserved
loop-group-preserved g c = (
  c.in_ok-add_likely.ensures.same ∙ c.loop-group.invariant.0,
  hits_more (HitsOfGroup c.args.sight.now (g.K.Keep.kept c.args.keep.now) c.args.patterns.now c.args.n) c.args.groups.now c.loop-group.group-index c.group-item.result _ _ _ c.loop-group-test.true c.group-item.is c.loop-group.invariant.1 (rw c.loop-group.invariant.0 at c.in_ok-add_likely.ensures.adds),
)

pub returns-clause-adds : goal.returns-clause-adds
returns-clause-adds g c = hits_all (HitsOfGroup c.args.sight.now (g.K.Keep.kept c.args.keep.now) c.args.patterns.now c.args.n) c.args.groups.now c.loop-group.group-index _ _ c.loop-group-test.false c.loop-group.invariant.1

pub returns-clause-same : goal.returns-clause-same
returns-clause-same g c = c.loop-group.invariant.0
