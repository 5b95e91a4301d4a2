use Rattle.std.proofs.Common.{rules, vec_len, ◌≡◌, ◌∙◌, subst, refl, List, ◌∷◌, [], length, arith}
use Rattle.std.proofs.lemmas.List.{take_all, length-append}
use Rattle.spec_lexing.specs.Words.{regular_of}
use Rattle.ts_core.specs.declared.re.Re.{Re}
use Rattle.ts_rules.specs.FirstSights.{end}
use Rattle.ts_tokens.specs.declared.definition.NamedToken.{NamedToken}
use Rattle.ts_tokens.specs.Definitions.{AreKeywords, trees_of}
use Rattle.ts_tokens.specs.Keywords.{IsWordAutomaton}
use Rattle.ts_tokens.specs.Patterns.{meaning}
use Rattle.ts_tokens.proofs.KeywordLemmas.{keywords_more}
use Rattle.ts_tokens.proofs.keyword.keywords_of.Goals as goal

pub loop-token-init : goal.loop-token-init
loop-token-init c =
    let nodes = c.in_ok-automaton.automaton.nodes in
    let count : vec_len nodes ≡ length nodes.items = search rules in
    rw c.in_ok-flags.ensures.items (refl, c.in_ok-walk.ensures ∙ c.len.ensures ∙ count, λ g name file word names. end)

pub loop-token-preserved : goal.loop-token-preserved
loop-token-preserved c =
    let pattern = meaning c.args.patterns.now in
    let automaton = subst (λ (r : Re). IsWordAutomaton (regular_of r) c.in_ok-automaton.automaton) c.in_ok-expression_of.ensures c.in_ok-automaton.ensures in
    rw c.in_ok-push.ensures.items (
      omega (arith, length-append c.loop-token.flags.items (c.is_keyword.result ∷ []), c.loop-token.invariant.0),
      c.is_keyword.ensures.room ∙ c.loop-token.invariant.1,
      λ g name file word names. keywords_more pattern g c.args.tokens.now c.loop-token.token-index c.token-item.result c.loop-token.flags.items c.is_keyword.result c.loop-token-test.true c.token-item.is
          (c.is_keyword.ensures.keyword pattern g name file word names automaton c.loop-token.invariant.1) (c.loop-token.invariant.2 g name file word names),
    )

pub returns : goal.returns
returns c = record {
  count = omega (arith, c.loop-token.invariant.0, c.loop-token-test.false, c.loop-token.auto.token-index-end);
  keywords = λ g name file word names.
      subst (λ (ts : List NamedToken). AreKeywords (meaning c.args.patterns.now) g (trees_of ts) c.loop-token.flags.items) (take_all c.loop-token.token-index c.args.tokens.now c.loop-token-test.false)
      (c.loop-token.invariant.2 g name file word names);
}
