use Rattle.std.proofs.Common.{◌≡◌, ◌∙◌, IfOk, ap, subst, arith, List, length}
use Rattle.spec_trees.specs.declared.tree.Element.{Element}
use Rattle.spec_trees.specs.Made.{children_count, loosened_at}
use Rattle.ts_node.specs.Held.{stretch}
use Rattle.ts_node.proofs.RunLemmas.{length-loosened_at, count-loosened_at, loosened_by_set}
use Rattle.ts_node.proofs.node.Run.leaf_loosened.Goals as goal

pub leaf_beside-requires : goal.leaf_beside-requires
leaf_beside-requires c =
    let es = c.args.elements.now in
    let kept : c.in_ok-kept.kept ≡ loosened_at c.args.k es = loosened_by_set es c.in_ok-kept.kept c.args.k c.loose.result c.requires.within c.in_ok-kept.ensures c.loose.ensures in
    let many : length c.in_ok-kept.kept ≡ length es = ap (λ (xs : List Element). length xs) kept ∙ length-loosened_at c.args.k es in
    record {
      some = omega (arith, many, c.requires.within);
      own = ap children_count kept ∙ count-loosened_at c.args.k es ∙ c.requires.own;
      fits = omega (arith, many, c.requires.fits);
      wide = c.requires.wide;
    }

pub returns : goal.returns
returns c =
    let es = c.args.elements.now in
    let kept : c.in_ok-kept.kept ≡ loosened_at c.args.k es = loosened_by_set es c.in_ok-kept.kept c.args.k c.loose.result c.requires.within c.in_ok-kept.ensures c.loose.ensures in
    subst (λ (xs : List Element). IfOk c.leaf_beside.result (λ run. run ≡ stretch xs c.args.children.now)) kept c.leaf_beside.ensures
