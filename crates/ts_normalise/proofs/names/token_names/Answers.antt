use Rattle.std.proofs.Common.{◌≡◌, subst, refl, ◌<◌, ◌≤◌, List, length, get_or}
use Rattle.ts_rules.specs.Names.{told}
use Rattle.ts_rules.specs.Sights.{NamedRule}
use Rattle.ts_normalise.proofs.NamedLemmas.{named_start, named_more, named_all}
use Rattle.ts_normalise.proofs.names.token_names.Goals as goal

pub loop-rule-init : goal.loop-rule-init
loop-rule-init c = named_start c.args.grammar.now c.args.grammar.now.rules c.new-names.result.keys c.new-names.ensures.len

pub loop-rule-preserved : goal.loop-rule-preserved
loop-rule-preserved c =
    let all = c.as_slice-rule-items.ensures in
    named_more c.args.grammar.now c.args.grammar.now.rules (told c.loop-rule.names.keys) (told c.add_named.new.names.keys) c.loop-rule.rule-index c.rule-item.result c.rule-item.result.0 refl
    (subst (λ (rules : List NamedRule). c.loop-rule.rule-index < length rules) all c.loop-rule-test.true)
    (subst (λ (rules : List NamedRule). c.rule-item.result ≡ get_or rules c.loop-rule.rule-index c.rule-item.result) all c.rule-item.is)
    (c.in_ok-add_named.ensures c.args.grammar.now c.requires.survey) c.loop-rule.invariant

pub returns : goal.returns
returns c =
    named_all c.args.grammar.now c.args.grammar.now.rules (told c.loop-rule.names.keys) c.loop-rule.rule-index refl
    (subst (λ (rules : List NamedRule). length rules ≤ c.loop-rule.rule-index) c.as_slice-rule-items.ensures c.loop-rule-test.false) c.loop-rule.invariant
