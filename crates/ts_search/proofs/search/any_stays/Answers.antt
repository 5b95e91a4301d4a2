use Rattle.spec_matches.specs.declared.placing.Placing.{Placing}
use Rattle.ts_search.specs.Steps.{CanWiden}
use Rattle.ts_search.proofs.AddLemmas.{none_in_all, none_in_more}
use Rattle.ts_search.proofs.RunLemmas.{no_truth}
use Rattle.ts_search.proofs.search.any_stays.Goals as goal

pub loop-tail-preserved : goal.loop-tail-preserved
loop-tail-preserved c =
    none_in_more (λ (t : Placing). CanWiden c.args.siblings.now c.args.rest.now c.args.at c.args.run t → ⊥) c.args.tails.now c.loop-tail.tail-index c.tail-item.result c.loop-tail-test.true c.tail-item.is c.loop-tail.invariant
    (λ free. free (c.grows.ensures.0 c.if-not-grows.false))

pub returns : goal.returns
returns c = (
  (λ h. absurd (no_truth h)),
  (λ any. absurd (none_in_all (λ (t : Placing). CanWiden c.args.siblings.now c.args.rest.now c.args.at c.args.run t → ⊥) c.args.tails.now c.loop-tail.tail-index c.loop-tail-test.false c.loop-tail.invariant any)),
)
