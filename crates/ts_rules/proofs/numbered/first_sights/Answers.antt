use Rattle.ts_rules.proofs.FirstSightLemmas.{lent_seen}
use Rattle.ts_rules.proofs.numbered.first_sights.Goals as goal

pub loop-name-preserved : goal.loop-name-preserved
loop-name-preserved c =
    lent_seen c.args.seen.now c.loop-name.found.keys c.insert.new.self.keys c.loop-name.name-index c.name-item.result c.loop-name-test.true c.name-item.is c.in_ok-insert.ensures.keys c.loop-name.invariant
