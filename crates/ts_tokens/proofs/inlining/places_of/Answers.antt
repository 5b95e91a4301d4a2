use Rattle.std.proofs.Common.{◌≡◌, ◌∙◌, sym, subst, true, false, get_or, arith}
use Rattle.std.specs.List.{Contains}
use Rattle.ts_rules.specs.Causes.{names_of}
use Rattle.ts_rules.specs.Names.{told}
use Rattle.ts_rules.specs.Sights.{NamedRule}
use Rattle.ts_tokens.proofs.InliningLemmas.{name_at, rule_here, same_rule, names_length, places_skip, places_more, places_all}
use Rattle.ts_tokens.proofs.inlining.places_of.Goals as goal

pub loop-place-preserved-then-not-is_among : goal.loop-place-preserved-then-not-is_among
loop-place-preserved-then-not-is_among c =
    let rules = c.args.rules.now in
    let place = c.loop-place.place in
    let rule = get_or rules place c.index-rules-place.result in
    let at = name_at rules place rule (rule_here rules place c.index-rules-place.result c.loop-place-test.true) in
    places_skip (names_of rules) (told c.args.inline.now.keys) c.loop-place.places place rule.0 at (λ w. let e : true ≡ false = sym (c.is_among.ensures.1 w) ∙ c.if-not-is_among.true in cc) c.loop-place.invariant

pub loop-place-preserved : goal.loop-place-preserved
loop-place-preserved c =
    let rules = c.args.rules.now in
    let inline = told c.args.inline.now.keys in
    let place = c.loop-place.place in
    let rule = get_or rules place c.index-rules-place-in-loop-place.result in
    let at = name_at rules place rule (rule_here rules place c.index-rules-place-in-loop-place.result c.loop-place-test.true) in
    let same = same_rule rules place c.index-rules-place.result c.index-rules-place-in-loop-place.result c.loop-place-test.true in
    let listed = subst (λ (r : NamedRule). Contains inline r.0) same (c.is_among.ensures.0 c.if-not-is_among.false) in
    places_more (names_of rules) inline c.loop-place.places c.insert.new.self place rule.0 at listed c.in_ok-insert.ensures.updates.0 c.loop-place.invariant

pub returns : goal.returns
returns c =
    let rules = c.args.rules.now in
    places_all (names_of rules) (told c.args.inline.now.keys) c.loop-place.places c.loop-place.place (omega (arith, names_length rules, c.loop-place-test.false)) c.loop-place.invariant
