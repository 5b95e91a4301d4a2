use Rattle.std.proofs.Common.{◌≡◌, ◌↔◌, IsTrue, slice_get, Some}
use Rattle.ts_rules.specs.Names.{told}
use Rattle.ts_rules.specs.Numbers.{HasSymbol}
use Rattle.ts_numbering.specs.Keys.{trees, rules_told}
use Rattle.ts_numbering.specs.Surveys.{IsInlinedRule, NamesItsToken}
use Rattle.ts_numbering.proofs.SurveyLemmas.{place_in, test_inlined, test_named, test_own, sort_more, sort_none, sort_done}
use Rattle.ts_numbering.proofs.survey.sort.Goals as goal

pub loop-place-init : goal.loop-place-init
loop-place-init c = record {
  rules = sort_none (HasSymbol c.args.grammar.now) c.new.result.entries c.new.ensures.len;
  inlined = sort_none (IsInlinedRule c.args.grammar.now) c.new-2.result.entries c.new-2.ensures.len;
  named = sort_none (NamesItsToken c.args.grammar.now) c.new-3.result.entries c.new-3.ensures.len;
}

pub loop-place-preserved : goal.loop-place-preserved
loop-place-preserved c =
    let place : slice_get c.args.grammar.now.rules c.loop-place.place ≡ Some c.index-all-place.result =
    place_in c.args.grammar.now c.as_slice-all.result.now c.loop-place.place c.index-all-place.result c.as_slice-all.ensures c.loop-place-test.true c.index-all-place.is in
    let named : IsTrue c.marks_of-marks.result.named ↔ NamesItsToken c.args.grammar.now c.index-all-place.result =
    test_named c.args.grammar.now c.requires.file c.loop-place.place c.index-all-place.result (trees c.args.tokens.now.first.keys) (trees c.args.tokens.now.again.keys) c.marks_of-marks.result.named place c.requires.tokens c.marks_of-marks.ensures.named in
    let inlined : IsTrue c.marks_of-marks.result.inlined ↔ IsInlinedRule c.args.grammar.now c.index-all-place.result =
    test_inlined c.args.grammar.now c.loop-place.place c.index-all-place.result c.as_slice.result.now (told c.in_ok-inline.inline.keys) c.marks_of-marks.result.inlined place c.as_slice.ensures c.in_ok-inline.ensures c.marks_of-marks.ensures.inlined in
    let own : IsTrue c.marks_of-marks.result.own ↔ HasSymbol c.args.grammar.now c.index-all-place.result =
    test_own c.args.grammar.now c.requires.file c.loop-place.place c.index-all-place.result c.marks_of-marks.result.own c.marks_of-marks.result.named c.marks_of-marks.result.inlined place named inlined c.marks_of-marks.ensures.own in
    record {
      rules = sort_more c.args.grammar.now c.requires.file (HasSymbol c.args.grammar.now) c.loop-place.place c.index-all-place.result (rules_told c.loop-place.sorted.rules.entries) (rules_told c.add_rule.new.sorted.rules.entries) c.marks_of-marks.result.own place own c.in_ok-add_rule.ensures.rules c.loop-place.invariant.rules;
      inlined = sort_more c.args.grammar.now c.requires.file (IsInlinedRule c.args.grammar.now) c.loop-place.place c.index-all-place.result (rules_told c.loop-place.sorted.inlined.entries) (rules_told c.add_rule.new.sorted.inlined.entries) c.marks_of-marks.result.inlined place inlined c.in_ok-add_rule.ensures.inlined c.loop-place.invariant.inlined;
      named = sort_more c.args.grammar.now c.requires.file (NamesItsToken c.args.grammar.now) c.loop-place.place c.index-all-place.result (rules_told c.loop-place.sorted.named.entries) (rules_told c.add_rule.new.sorted.named.entries) c.marks_of-marks.result.named place named c.in_ok-add_rule.ensures.named c.loop-place.invariant.named;
    }

pub returns-clause-rules : goal.returns-clause-rules
returns-clause-rules c =
    sort_done (HasSymbol c.args.grammar.now) c.args.grammar.now.rules c.as_slice-all.result.now (rules_told c.loop-place.sorted.rules.entries) c.loop-place.place c.as_slice-all.ensures c.loop-place-test.false c.loop-place.invariant.rules

pub returns-clause-inlined : goal.returns-clause-inlined
returns-clause-inlined c =
    sort_done (IsInlinedRule c.args.grammar.now) c.args.grammar.now.rules c.as_slice-all.result.now (rules_told c.loop-place.sorted.inlined.entries) c.loop-place.place c.as_slice-all.ensures c.loop-place-test.false c.loop-place.invariant.inlined

pub returns-clause-named : goal.returns-clause-named
returns-clause-named c =
    sort_done (NamesItsToken c.args.grammar.now) c.args.grammar.now.rules c.as_slice-all.result.now (rules_told c.loop-place.sorted.named.entries) c.loop-place.place c.as_slice-all.ensures c.loop-place-test.false c.loop-place.invariant.named
