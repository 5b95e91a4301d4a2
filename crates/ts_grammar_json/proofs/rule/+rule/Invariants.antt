use Rattle.std.proofs.Common.{◌+◌, ◌*◌}
use Rattle.ts_ojson.specs.Json.{json_of, depth, items_depth}
use Rattle.ts_grammar_json.specs.Members.{items_json}
use Rattle.ts_grammar_json.specs.Rules.{item_faults, item_rules}
use Rattle.ts_grammar_json.specs.Shape.{height}
use Rattle.ts_grammar_json.proofs.ListLemmas.{SoFar}
use Rattle.ts_grammar_json.proofs.rule.+rule.Given as goal

abbrev pub decreases-rule : goal.decreases-rule
decreases-rule l = 4 * depth (json_of l.value.now)

abbrev pub decreases-inside : goal.decreases-inside
decreases-inside l = 4 * height l.shape + 3

abbrev pub decreases-content_rule : goal.decreases-content_rule
decreases-content_rule l = 4 * depth (json_of l.content.now) + 1

abbrev pub decreases-member_rules : goal.decreases-member_rules
decreases-member_rules l = 4 * items_depth (items_json l.items.now) + 6

abbrev pub decreases-rules : goal.decreases-rules
decreases-rules l = 4 * items_depth (items_json l.items.now) + 5

abbrev pub invariant-rules-loop-at : goal.invariant-rules-loop-at
invariant-rules-loop-at l = SoFar item_faults item_rules l.items l.at l.trees
