use Rattle.std.proofs.Common.{◌≡◌, ◌∙◌, sym, subst, true, false, List, ◌+◌, take}
use Rattle.std.specs.Borrow.{Bor}
use Rattle.ts_core.specs.declared.rule.Rule.{Rule}
use Rattle.ts_rules.specs.FirstSights.{Picks}
use Rattle.ts_rules.specs.Normal.{IsTokenExtra}
use Rattle.ts_tokens.specs.Names.{lent}
use Rattle.ts_tokens.proofs.PickLemmas.{picks_begin, picks_more, picks_left, lent_push}
use Rattle.ts_tokens.proofs.extras.extra_tokens.Goals as goal

pub loop-tree-init : goal.loop-tree-init
loop-tree-init c = λ same.
    let P = IsTokenExtra c.args.grammar.now in
    let all = c.as_slice-tree-items.result.now in
    subst (λ (ts : List (Bor Rule)). Picks P (take 0 all) (lent ts)) (sym c.new-trees.ensures.items) (picks_begin P all)

pub loop-tree-preserved-then-not-is_token_extra : goal.loop-tree-preserved-then-not-is_token_extra
loop-tree-preserved-then-not-is_token_extra c = λ same.
    let g = c.args.grammar.now in
    let wrong : c.is_token_extra.result ≡ false = cc in
    picks_left (IsTokenExtra g) c.as_slice-tree-items.result.now (lent c.loop-tree.trees.items) c.loop-tree.tree-index c.tree-item.result c.loop-tree-test.true c.tree-item.is
    (λ token. let e : true ≡ false = sym ((c.is_token_extra.ensures g same).1 token) ∙ wrong in cc) (c.loop-tree.invariant same)

pub loop-tree-preserved : goal.loop-tree-preserved
loop-tree-preserved c = λ same.
    let g = c.args.grammar.now in
    let P = IsTokenExtra g in
    let all = c.as_slice-tree-items.result.now in
    let right : c.is_token_extra.result ≡ true = cc in
    subst (λ (ts : List (Bor Rule)). Picks P (take (c.loop-tree.tree-index + 1) all) (lent ts)) (sym c.in_ok-push.ensures.items)
    (subst (λ (ts : List Rule). Picks P (take (c.loop-tree.tree-index + 1) all) ts) (sym (lent_push c.loop-tree.trees.items _))
    (picks_more P all (lent c.loop-tree.trees.items) c.loop-tree.tree-index c.tree-item.result c.loop-tree-test.true c.tree-item.is ((c.is_token_extra.ensures g same).0 right) (c.loop-tree.invariant same)))
