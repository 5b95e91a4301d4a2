use Rattle.std.proofs.Common.{◌≡◌, ◌∙◌, IfOk, ap, sym, subst, List, length, length-set, set}
use Rattle.spec_trees.specs.declared.tree.Tree.{Tree}
use Rattle.spec_trees.specs.declared.tree.Element.{Element}
use Rattle.spec_trees.specs.Made.{children_count, loosened_at}
use Rattle.ts_node.specs.Held.{stretch}
use Rattle.ts_node.proofs.RunLemmas.{count-loosened_at, loosened_by_set}
use Rattle.ts_node.proofs.node.Run.leaf_with_both.Goals as goal

pub leaf-requires-clause-own : goal.leaf-requires-clause-own
leaf-requires-clause-own c =
    let es = c.args.elements.now in
    let kept : c.in_ok-kept.kept ≡ loosened_at c.args.e es = loosened_by_set es c.in_ok-kept.kept c.args.e c.loose.result c.requires.element c.in_ok-kept.ensures c.loose.ensures in
    ap children_count kept ∙ count-loosened_at c.args.e es ∙ c.requires.own
    ∙ sym (ap (λ (xs : List Tree). length xs) c.in_ok-nodes.ensures ∙ length-set c.args.children.now c.args.k c.args.child)

pub returns : goal.returns
returns c =
    let es = c.args.elements.now in
    let nodes = set c.args.children.now c.args.k c.args.child in
    let kept : c.in_ok-kept.kept ≡ loosened_at c.args.e es = loosened_by_set es c.in_ok-kept.kept c.args.e c.loose.result c.requires.element c.in_ok-kept.ensures c.loose.ensures in
    subst (λ (xs : List Tree). IfOk c.leaf.result (λ run. run ≡ stretch (loosened_at c.args.e es) xs)) c.in_ok-nodes.ensures
    (subst (λ (xs : List Element). IfOk c.leaf.result (λ run. run ≡ stretch xs c.in_ok-nodes.nodes)) kept c.leaf.ensures)
