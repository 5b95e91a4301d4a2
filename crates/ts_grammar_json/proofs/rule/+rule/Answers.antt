use Rattle.std.proofs.Common.{refl, arith}
use Rattle.std.proofs.lemmas.Result.{err_from_is_err_and}
use Rattle.ts_ojson.specs.Json.{json_of}
use Rattle.ts_grammar_json.specs.Members.{items_json, members_json}
use Rattle.ts_grammar_json.specs.Rules.{rule_faults, rule_of, item_faults, item_rules}
use Rattle.ts_grammar_json.proofs.ListLemmas.{next, stops}
use Rattle.ts_grammar_json.proofs.RuleLemmas.{rule_stops, rule_gives, shape_lower, item_lower}
use Rattle.ts_grammar_json.proofs.rule.+rule.Goals as goal

pub content_rule-returns : goal.content_rule-returns
content_rule-returns t c = c.in_member.ensures (rule_faults (json_of c.args.content.now)) (rule_of (json_of c.args.content.now)) c.rule.ensures

pub member_rules-returns : goal.member_rules-returns
member_rules-returns t c = c.in_member.ensures (item_faults 0 (items_json c.args.items.now)) (item_rules (items_json c.args.items.now)) c.rules.ensures

pub rule-returns-in_err-shape_of-in-Some : goal.rule-returns-in_err-shape_of-in-Some
rule-returns-in_err-shape_of-in-Some t c =
    let p = err_from_is_err_and c.from_residual.result c.from_residual.ensures.1 in
    rw (p.1, p.2) (rule_stops (json_of c.args.value.now) (members_json c.in-Some.members.now) c.in_err-shape_of-in-Some.field-0.0 c.in-Some.ensures c.in_err-shape_of-in-Some.ensures)

pub rule-inside-requires : goal.rule-inside-requires
rule-inside-requires t c =
    let lower = shape_lower (json_of c.args.value.now) (members_json c.in-Some.members.now) c.in_ok-shape_of-in-Some.field-0 c.in-Some.ensures c.in_ok-shape_of-in-Some.ensures in
    (omega arith, tt)

pub rule-returns-in_ok-shape_of-in-Some : goal.rule-returns-in_ok-shape_of-in-Some
rule-returns-in_ok-shape_of-in-Some t c =
    rule_gives (json_of c.args.value.now) (members_json c.in-Some.members.now) c.in_ok-shape_of-in-Some.field-0 c.inside.result c.in-Some.ensures c.in_ok-shape_of-in-Some.ensures c.inside.ensures

pub rules-rule-requires : goal.rules-rule-requires
rules-rule-requires t c =
    let lower = item_lower c.args.items.now c.loop-at.at c.index-items-at.result c.loop-at-test.true c.index-items-at.is in
    (omega arith, tt)

pub rules-returns-in_err-in_item : goal.rules-returns-in_err-in_item
rules-returns-in_err-in_item t c =
    let p = err_from_is_err_and c.from_residual.result c.from_residual.ensures.1 in
    rw (p.1, p.2) (λ other. stops item_faults item_rules rule_faults rule_of (λ k j js. refl) (λ j js. refl) c.args.items.now c.loop-at.at c.index-items-at.result c.loop-at.trees c.in_err-in_item.field-0.0
    c.loop-at-test.true c.index-items-at.is (c.in_err-in_item.ensures (rule_faults (json_of c.index-items-at.result)) (rule_of (json_of c.index-items-at.result)) c.rule.ensures other) c.loop-at.invariant)

pub rules-loop-at-preserved : goal.rules-loop-at-preserved
rules-loop-at-preserved t c =
    let read = c.in_ok-in_item.ensures (rule_faults (json_of c.index-items-at.result)) (rule_of (json_of c.index-items-at.result)) c.rule.ensures in
    rw c.in_ok-push.ensures.ok
    (next item_faults item_rules rule_faults rule_of (λ k j js. refl) (λ j js. refl) c.args.items.now c.loop-at.at c.index-items-at.result c.loop-at.trees c.in_ok-in_item.field-0
    c.loop-at-test.true c.index-items-at.is read.0 read.1 c.loop-at.invariant)
