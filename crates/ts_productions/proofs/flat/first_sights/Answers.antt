use Rattle.ts_productions.proofs.SightLemmas.{production_seen}
use Rattle.ts_productions.proofs.flat.first_sights.Goals as goal

pub loop-expansion-preserved : goal.loop-expansion-preserved
loop-expansion-preserved c =
    production_seen c.args.aliases.now c.args.expansions.now c.loop-expansion.expansion-index c.expansion-item.result c.in_ok-made.made c.loop-expansion.found.keys c.insert.new.self.keys c.loop-expansion-test.true c.expansion-item.is c.in_ok-made.ensures c.in_ok-insert.ensures.keys c.loop-expansion.invariant
