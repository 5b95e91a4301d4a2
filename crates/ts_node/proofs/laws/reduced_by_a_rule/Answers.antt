use Rattle.ts_node.proofs.FormLemmas.{rule_production, rule_elements}
use Rattle.ts_node.proofs.laws.reduced_by_a_rule.Goals as goal

pub returns : goal.returns
returns c = record { production = rule_production; elements = rule_elements }
