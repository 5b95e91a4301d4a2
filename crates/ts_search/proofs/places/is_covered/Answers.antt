use Rattle.ts_search.specs.Table.{Takes}
use Rattle.ts_search.proofs.RunLemmas.{covers_more, no_truth}
use Rattle.ts_search.proofs.places.is_covered.Goals as goal

pub returns-then-not-is_taken : goal.returns-then-not-is_taken
returns-then-not-is_taken c = ((λ h. absurd (no_truth h)), (λ h. let t = (rw c.place_in_round.ensures at c.is_taken.ensures).1 (h c.loop-place.place c.loop-place.auto.place c.loop-place-test.true) in let f = c.if-not-is_taken.true in cc))

pub loop-place-preserved : goal.loop-place-preserved
loop-place-preserved c = covers_more (Takes c.args.table.now) c.args.k c.args.slot c.args.run.first c.loop-place.place c.loop-place.invariant ((rw c.place_in_round.ensures at c.is_taken.ensures).0 c.if-not-is_taken.false)
