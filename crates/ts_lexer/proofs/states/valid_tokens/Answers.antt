use Rattle.std.proofs.Common.{◌∙◌, ap, subst, List}
use Rattle.std.proofs.lemmas.List.{take_all}
use Rattle.ts_core.specs.declared.flat.FlatGrammar.{FlatGrammar}
use Rattle.ts_core.specs.declared.symbol.Symbol.{Symbol}
use Rattle.ts_lexer.proofs.StateLemmas.{WithExtras, extras_none, extras_more, are_valid}
use Rattle.ts_lexer.proofs.states.valid_tokens.Goals as goal

pub loop-extra-init : goal.loop-extra-init
loop-extra-init c = extras_none c.args.table.now c.args.state _ c.in_ok-valid.ensures

pub loop-extra-preserved : goal.loop-extra-preserved
loop-extra-preserved c = rw c.in_ok-push.ensures.items
    (extras_more c.args.table.now c.args.state c.loop-extra.valid.items _ c.loop-extra.extra-index _ c.loop-extra-test.true c.loop-extra.invariant)

pub returns : goal.returns
returns c =
    let all = take_all _ _ c.loop-extra-test.false in
    let whole = all ∙ c.as_slice-extras.ensures ∙ ap (λ (g : FlatGrammar). g.extras) c.grammar-grammar.ensures in
    are_valid c.args.table.now c.args.state c.loop-extra.valid.items
    (subst (λ (l : List Symbol). WithExtras c.args.table.now c.args.state c.loop-extra.valid.items l) whole c.loop-extra.invariant)
