use Rattle.std.proofs.Common.{refl}
use Rattle.ts_rules.proofs.FirstSightLemmas.{name_seen}
use Rattle.ts_rules.proofs.names.rule_names.Goals as goal

pub loop-rule-preserved : goal.loop-rule-preserved
loop-rule-preserved c =
    name_seen c.args.rules.now c.loop-rule.names.keys c.insert.new.self.keys c.loop-rule.rule-index c.rule-item.result _ refl c.loop-rule-test.true c.rule-item.is c.in_ok-insert.ensures.keys c.loop-rule.invariant
