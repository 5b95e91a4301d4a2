use Rattle.std.proofs.Common.{◌≡◌, ◌∙◌, ap, sym, subst, [], ◌∷◌, None}
use Rattle.std.specs.Prelude.{IfOk}
use Rattle.spec_trees.specs.declared.tree.Tree.{Tree}
use Rattle.spec_trees.specs.declared.tree.Element.{Element}
use Rattle.spec_trees.specs.Made.{IsNode, element, node_over}
use Rattle.ts_node.proofs.UnitLemmas.{head_is, small_total}
use Rattle.ts_node.proofs.unit.first_of_one.Goals as goal

pub head_over-head-requires : goal.head_over-head-requires
head_over-head-requires c = small_total c.summary-below.result c.args.child c.summary-below.ensures

pub element_over-requires-clause-own : goal.element_over-requires-clause-own
element_over-requires-clause-own c = ap (λ (e : Element). e.children) c.added-element.ensures

pub element_over-requires-clause-node : goal.element_over-requires-clause-node
element_over-requires-clause-node c =
    let h = c.head_over-head.result in
    let k = c.head_over-head.ensures in
    let one : Element = element c.args.alternative 1 c.args.entry.dynamic c.args.extent in
    let same = head_is h c.args.entry.symbol None c.args.entry.dynamic c.args.extent c.args.state (one ∷ []) c.summary-below.result c.args.child k.symbol k.dynamic k.extent k.state c.summary-below.ensures in
    subst (λ (e : Element). IsNode (node_over h.symbol.0 None h.dynamic h.extent h.state (e ∷ []) (c.args.child ∷ []))) (sym c.added-element.ensures)
    (subst (λ (x : Tree). IsNode x) (sym same) c.requires)

pub returns : goal.returns
returns c =
    let h = c.head_over-head.result in
    let k = c.head_over-head.ensures in
    let one : Element = element c.args.alternative 1 c.args.entry.dynamic c.args.extent in
    let same = head_is h c.args.entry.symbol None c.args.entry.dynamic c.args.extent c.args.state (one ∷ []) c.summary-below.result c.args.child k.symbol k.dynamic k.extent k.state c.summary-below.ensures in
    subst (λ (x : Tree). IfOk c.element_over.result (λ node. node ≡ x))
    (ap (λ (e : Element). node_over h.symbol.0 None h.dynamic h.extent h.state (e ∷ []) (c.args.child ∷ [])) c.added-element.ensures ∙ same) c.element_over.ensures
