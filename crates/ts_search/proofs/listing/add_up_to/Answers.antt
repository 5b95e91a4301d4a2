use Rattle.ts_search.specs.Gathering.{HitsIn}
use Rattle.ts_search.proofs.LimitLemmas.{some_all, some_full, some_unsaid}
use Rattle.ts_search.proofs.listing.add_up_to.Goals as goal

pub returns-then-not-limit-clause-some : goal.returns-then-not-limit-clause-some
returns-then-not-limit-clause-some g c = some_unsaid (HitsIn c.args.sight.now (g.K.Keep.kept c.args.keep.now) c.args.number c.args.pattern.now c.args.siblings.now) _ _ _ _ c.in_ok-add_limited.ensures.adds

pub returns-then-not-limit-clause-all : goal.returns-then-not-limit-clause-all
returns-then-not-limit-clause-all g c h = some_all (HitsIn c.args.sight.now (g.K.Keep.kept c.args.keep.now) c.args.number c.args.pattern.now c.args.siblings.now) _ _ _ _ c.in_ok-add_limited.ensures.adds c.if-not-limit.true

pub returns-clause-some : goal.returns-clause-some
returns-clause-some g c = some_unsaid (HitsIn c.args.sight.now (g.K.Keep.kept c.args.keep.now) c.args.number c.args.pattern.now c.args.siblings.now) _ _ _ _ c.in_ok-add_limited.ensures.adds

pub returns-clause-all : goal.returns-clause-all
returns-clause-all g c h = some_full (HitsIn c.args.sight.now (g.K.Keep.kept c.args.keep.now) c.args.number c.args.pattern.now c.args.siblings.now) _ _ _ _ c.in_ok-add_limited.ensures.adds (c.is_full.ensures.full.0 h)
