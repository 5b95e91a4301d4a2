use Rattle.std.proofs.Common.{refl, ◌∙◌, subst, get_or, ℕ, List}
use Rattle.std.specs.List.{Contains}
use Rattle.ts_search.specs.Visits.{HitsOfNumber}
use Rattle.ts_search.proofs.GatherLemmas.{hits_none, hits_more, hits_all}
use Rattle.ts_search.proofs.NodeLemmas.{get_again, member}
use Rattle.ts_search.proofs.listing.add_group.Goals as goal

pub loop-number-init : goal.loop-number-init
loop-number-init g c = (refl, hits_none (HitsOfNumber c.args.sight.now (g.K.Keep.kept c.args.keep.now) c.args.patterns.now c.args.group.now.root c.args.n) _)

pub add_numbered-requires-clause-root : goal.add_numbered-requires-clause-root
add_numbered-requires-clause-root g c =
    c.requires.roots _ (subst (λ (l : List ℕ). Contains l (get_or c.as_slice-number-items.result.now c.loop-number.number-index 0)) c.as_slice-number-items.ensures.value (member c.as_slice-number-items.result.now c.loop-number.number-index 0 c.loop-number-test.true))

pub loop-number-preserved : goal.loop-number-preserved
loop-number-preserved g c = (
  c.in_ok-add_numbered.ensures.same ∙ c.loop-number.invariant.0,
  hits_more (HitsOfNumber c.args.sight.now (g.K.Keep.kept c.args.keep.now) c.args.patterns.now c.args.group.now.root c.args.n) c.as_slice-number-items.result.now c.loop-number.number-index (get_or c.as_slice-number-items.result.now c.loop-number.number-index 0) _ _ _ c.loop-number-test.true
      (get_again c.as_slice-number-items.result.now c.loop-number.number-index 0 c.loop-number-test.true) c.loop-number.invariant.1 (rw c.loop-number.invariant.0 at c.in_ok-add_numbered.ensures.adds),
)

pub returns-clause-adds : goal.returns-clause-adds
returns-clause-adds g c =
    rw c.as_slice-number-items.ensures.value at (hits_all (HitsOfNumber c.args.sight.now (g.K.Keep.kept c.args.keep.now) c.args.patterns.now c.args.group.now.root c.args.n) c.as_slice-number-items.result.now c.loop-number.number-index c.args.out.now c.loop-number.out c.loop-number-test.false c.loop-number.invariant.1)

pub returns-clause-same : goal.returns-clause-same
returns-clause-same g c = c.loop-number.invariant.0
