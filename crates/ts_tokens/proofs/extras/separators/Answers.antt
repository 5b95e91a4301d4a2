use Rattle.std.proofs.Common.{◌≡◌, ◌∙◌, sym, subst, true, false, List, take}
use Rattle.ts_core.specs.declared.re.Re.{Re}
use Rattle.ts_tokens.specs.Extras.{ArePickedOf}
use Rattle.ts_tokens.specs.Patterns.{meaning}
use Rattle.ts_tokens.proofs.PickLemmas.{separators_begin, separators_left, separators_more}
use Rattle.ts_tokens.proofs.extras.separators.Goals as goal

pub loop-tree-init : goal.loop-tree-init
loop-tree-init c = λ same.
    let g = c.args.grammar.now in
    let pattern = meaning c.args.patterns.now in
    let all = c.as_slice-tree-items.result.now in
    subst (λ (rs : List Re). ArePickedOf g pattern (take 0 all) rs) (sym c.new-found.ensures) (separators_begin g pattern all)

pub loop-tree-preserved-then-is_token_extra : goal.loop-tree-preserved-then-is_token_extra
loop-tree-preserved-then-is_token_extra c = λ same.
    let g = c.args.grammar.now in
    let right : c.is_token_extra.result ≡ true = cc in
    separators_left g (meaning c.args.patterns.now) c.as_slice-tree-items.result.now c.loop-tree.tree-index c.tree-item.result c.loop-tree.found c.loop-tree-test.true c.tree-item.is
    ((c.is_token_extra.ensures g same).0 right) (c.loop-tree.invariant same)

pub loop-tree-preserved : goal.loop-tree-preserved
loop-tree-preserved c = λ same.
    let g = c.args.grammar.now in
    let wrong : c.is_token_extra.result ≡ false = cc in
    separators_more g (meaning c.args.patterns.now) c.as_slice-tree-items.result.now c.loop-tree.tree-index c.tree-item.result c.loop-tree.found _ _ c.loop-tree-test.true c.tree-item.is
    (λ token. let e : true ≡ false = sym ((c.is_token_extra.ensures g same).1 token) ∙ wrong in cc) c.in_ok-expression_of.ensures c.in_ok-push.ensures.ok (c.loop-tree.invariant same)
