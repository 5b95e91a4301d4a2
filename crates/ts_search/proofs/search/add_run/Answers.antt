use Rattle.ts_search.specs.Adding.{OfSome}
use Rattle.ts_search.specs.Steps.{JoinedTo, RunBefore}
use Rattle.ts_search.proofs.AddLemmas.{adds_none, adds_same}
use Rattle.ts_search.proofs.search.add_run.Goals as goal

pub returns-then-grows : goal.returns-then-grows
returns-then-grows c = adds_none (RunBefore c.args.siblings.now c.args.rest.now c.args.at c.args.run c.args.fronts.now c.args.tail.now) _ (λ x r. r.stays (c.grows.ensures.0 c.if-grows.true))

pub returns : goal.returns
returns c =
    adds_same (OfSome (JoinedTo c.args.tail.now.captures) c.args.fronts.now) (RunBefore c.args.siblings.now c.args.rest.now c.args.at c.args.run c.args.fronts.now c.args.tail.now) _ _ (rw c.as_slice.ensures at c.in_ok-add_behind.ensures)
    (λ x h. record { stays = λ g. let t = c.grows.ensures.1 g in let f = c.if-grows.false in cc; some = h }) (λ x r. r.some)
