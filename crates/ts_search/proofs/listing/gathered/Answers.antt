use Rattle.std.proofs.Common.{◌∙◌, refl, arith}
use Rattle.ts_search.proofs.GatherLemmas.{none_in_empty}
use Rattle.ts_search.proofs.VisitLemmas.{first_all, first_more, first_none}
use Rattle.ts_search.proofs.listing.gathered.Goals as goal

pub loop-n-init : goal.loop-n-init
loop-n-init g c = (refl, first_none c.args.sight.now (g.K.Keep.kept c.args.keep.now) c.args.patterns.now c.in_ok-groups.groups.items _)

pub loop-n-preserved : goal.loop-n-preserved
loop-n-preserved g c = (
  c.in_ok-visit.ensures.same ∙ c.loop-n.invariant.0,
  first_more c.args.sight.now (g.K.Keep.kept c.args.keep.now) c.args.patterns.now c.in_ok-groups.groups.items c.loop-n.n _ _ _ c.loop-n.invariant.1 (rw (c.loop-n.invariant.0, c.as_slice.ensures.value) at c.in_ok-visit.ensures.adds),
)

pub returns-clause-matches : goal.returns-clause-matches
returns-clause-matches g c =
    first_all c.args.sight.now (g.K.Keep.kept c.args.keep.now) c.args.patterns.now c.in_ok-groups.groups.items c.loop-n.n _ _ c.in_ok-groups.ensures c.count-n-end.ensures.some c.count-n-end.ensures.parents (omega arith) (omega arith) (none_in_empty c.new-out.result c.new-out.ensures.empty) c.loop-n.invariant.1

pub returns-clause-same : goal.returns-clause-same
returns-clause-same g c = c.loop-n.invariant.0
