use Rattle.ts_rules.proofs.AlternativeLemmas.{joins_step}
use Rattle.ts_rules.proofs.walk.join.Goals as goal

pub loop-first-preserved : goal.loop-first-preserved
loop-first-preserved c =
    rw c.in_ok-add_joins.ensures
    (joins_step c.args.firsts.now c.args.rest.now c.loop-first.first-index c.first-item.result c.loop-first.found c.loop-first-test.true c.first-item.is c.loop-first.invariant)
