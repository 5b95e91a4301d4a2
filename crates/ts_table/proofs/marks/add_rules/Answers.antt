use Rattle.std.proofs.Common.{arith}
use Rattle.ts_table.proofs.MarkLemmas.{rules_more}
use Rattle.ts_table.proofs.marks.add_rules.Goals as goal

pub loop-rule-preserved : goal.loop-rule-preserved
loop-rule-preserved c = record {
  left = let e = c.loop-rule.invariant.left in omega arith;
  all = rules_more c.args.first c.loop-rule.left c.loop-rule.rule-index c.args.rules.now c.rule-item.result _ _ _ c.loop-rule-test.true c.rule-item.is c.loop-rule.invariant.left c.in_ok-add_rule.ensures c.loop-rule.invariant.all;
}
