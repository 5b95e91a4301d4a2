use Rattle.std.proofs.Common.{◌≡◌, ◌∙◌, sym, ap, subst, ℕ, ◌<◌, false, slice_get, Some}
use Rattle.std.proofs.lemmas.Option.{slice_get-get_or}
use Rattle.ts_tokens.proofs.DefinitionLemmas.{defined_more}
use Rattle.ts_tokens.proofs.definition.definitions.Goals as goal

pub loop-place-preserved : goal.loop-place-preserved
loop-place-preserved c =
    let tokens = c.args.tokens.now in
    let flags = c.args.keywords.now in
    let place = c.loop-place.place in
    let t = c.index-tokens-place.result in
    let here : slice_get tokens place ≡ Some t = slice_get-get_or tokens place t c.loop-place-test.true ∙ ap Some (sym c.index-tokens-place.is) in
    let key = slice_get-get_or flags place false (subst (λ (n : ℕ). place < n) (sym c.requires) c.loop-place-test.true) in
    rw c.in_ok-push.ensures.ok (defined_more _ _ tokens flags c.loop-place.defs place t _ c.in_ok-def.def here key c.in_ok-def.ensures c.loop-place.invariant)
