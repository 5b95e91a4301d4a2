use Rattle.ts_numbering.specs.Keys.{trees}
use Rattle.ts_numbering.proofs.SurveyLemmas.{are_contents, are_tokens}
use Rattle.ts_numbering.proofs.survey.survey_of.Goals as goal

pub returns : goal.returns
returns c = record {
  tokens = are_tokens c.args.grammar.now c.as_slice.result.now c.as_slice-2.result.now c.in_ok-gathered.gathered.tokens.items (trees c.in_ok-tokens.tokens.first.keys) (trees c.in_ok-tokens.tokens.again.keys) c.as_slice.ensures c.as_slice-2.ensures.value c.in_ok-gathered.ensures.tokens c.in_ok-tokens.ensures;
  contents = are_contents c.args.grammar.now c.as_slice.result.now c.as_slice-3.result.now c.in_ok-gathered.gathered.contents.items (trees c.in_ok-contents.contents.keys) c.as_slice.ensures c.as_slice-3.ensures.value c.in_ok-gathered.ensures.contents c.in_ok-contents.ensures;
  rules = c.in_ok-sorted.ensures.rules;
  inlined = c.in_ok-sorted.ensures.inlined;
  named = c.in_ok-sorted.ensures.named;
}
