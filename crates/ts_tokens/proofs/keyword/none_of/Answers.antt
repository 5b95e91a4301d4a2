use Rattle.std.proofs.Common.{refl, subst, false, List, ◌∷◌, [], arith}
use Rattle.std.proofs.lemmas.List.{take_all, length-append}
use Rattle.ts_rules.specs.FirstSights.{end}
use Rattle.ts_tokens.specs.declared.definition.NamedToken.{NamedToken}
use Rattle.ts_tokens.specs.Definitions.{AreKeywords, trees_of}
use Rattle.ts_tokens.proofs.KeywordLemmas.{keywords_more, no_word}
use Rattle.ts_tokens.proofs.keyword.none_of.Goals as goal

pub loop-token-init : goal.loop-token-init
loop-token-init c = rw c.in_ok-flags.ensures.items (refl, λ pattern g none. end)

pub loop-token-preserved : goal.loop-token-preserved
loop-token-preserved c =
    rw c.in_ok-push.ensures.items (
      omega (arith, length-append c.loop-token.flags.items (false ∷ []), c.loop-token.invariant.0),
      λ pattern g none. keywords_more pattern g c.args.tokens.now c.loop-token._token-index c._token-item.result c.loop-token.flags.items false c.loop-token-test.true c._token-item.is
          (no_word pattern g c._token-item.result.tree.now none) (c.loop-token.invariant.1 pattern g none),
    )

pub returns-clause-keywords : goal.returns-clause-keywords
returns-clause-keywords c = λ pattern g none.
    subst (λ (ts : List NamedToken). AreKeywords pattern g (trees_of ts) c.loop-token.flags.items) (take_all c.loop-token._token-index c.args.tokens.now c.loop-token-test.false)
    (c.loop-token.invariant.1 pattern g none)
