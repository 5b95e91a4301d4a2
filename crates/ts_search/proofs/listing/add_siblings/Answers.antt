use Rattle.ts_search.specs.Gathering.{HitsIn}
use Rattle.ts_search.proofs.GatherLemmas.{gathers_full}
use Rattle.ts_search.proofs.LimitLemmas.{some_then}
use Rattle.ts_search.proofs.listing.add_siblings.Goals as goal

pub returns-then-is_full-clause-adds : goal.returns-then-is_full-clause-adds
returns-then-is_full-clause-adds g c = gathers_full _ _ (c.is_full.ensures.full.0 c.if-is_full.true)

pub returns-then-near-clause-adds : goal.returns-then-near-clause-adds
returns-then-near-clause-adds g c = c.in_ok-near.ensures.all c.if-near.true

pub returns-then-far-clause-adds : goal.returns-then-far-clause-adds
returns-then-far-clause-adds g c = some_then (HitsIn c.args.sight.now (g.K.Keep.kept c.args.keep.now) c.args.number c.args.pattern.now c.args.siblings.now) _ _ _ _ _ c.in_ok-near.ensures.some (rw c.in_ok-near.ensures.same at (c.in_ok-far.ensures.all c.if-far.true))

pub returns-then-whole-clause-adds : goal.returns-then-whole-clause-adds
returns-then-whole-clause-adds g c =
    some_then (HitsIn c.args.sight.now (g.K.Keep.kept c.args.keep.now) c.args.number c.args.pattern.now c.args.siblings.now) _ _ _ _ _ c.in_ok-near.ensures.some (some_then (HitsIn c.args.sight.now (g.K.Keep.kept c.args.keep.now) c.args.number c.args.pattern.now c.args.siblings.now) _ _ _ _ _ (rw c.in_ok-near.ensures.same at c.in_ok-far.ensures.some) (rw (c.in_ok-far.ensures.same, c.in_ok-near.ensures.same) at (c.in_ok-whole.ensures.all c.if-whole.true)))
