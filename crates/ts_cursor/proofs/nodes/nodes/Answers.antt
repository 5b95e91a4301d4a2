use Rattle.std.proofs.Common.{◌≡◌, ◌∙◌, true, List, [], ◌∷◌, ◌++◌, ap, arith}
use Rattle.spec_trees.specs.declared.visible.VisibleNode.{VisibleNode}
use Rattle.spec_grammar.specs.Symbols.{node_name}
use Rattle.spec_trees.specs.Trees.{symbol_of, pad_of, size_of, span_of}
use Rattle.spec_trees.specs.VisibleNodes.{visible_node, visible_nodes}
use Rattle.spec_trees.specs.Family.{LieWithin}
use Rattle.ts_cursor.specs.Pooled.{seen_with}
use Rattle.ts_cursor.proofs.WalkLemmas.{depth_is, put_root, few_seen}
use Rattle.ts_cursor.proofs.nodes.nodes.Goals as goal
use Rattle.ts_cursor.proofs.nodes.nodes.Goals.{In_ok-put_children}

pub put_children-requires-clause-deep : goal.put_children-requires-clause-deep
put_children-requires-clause-deep c = omega (arith, depth_is c.args.root.now, c.nodes.ensures.node.sized.shallow)

found : (c : In_ok-put_children) → (c.put_children.new.nodes ≡ visible_nodes c.args.steps.now c.args.root.now) × LieWithin (span_of c.args.root.now) c.put_children.new.nodes
found c =
    let p : c.add.new.self ≡ visible_node 0 (node_name c.args.steps.now (symbol_of c.args.root.now)) true [] (pad_of c.args.root.now) (size_of c.args.root.now) ∷ [] =
    c.in_ok-add.ensures ∙ ap (λ (vs : List VisibleNode). vs ++ seen_with [] c.root_face.result ∷ []) c.in_ok-nodes.ensures ∙ ap (λ (v : VisibleNode). v ∷ []) c.root_face.ensures in
    put_root c.args.steps.now c.args.root.now _ _ p c.nodes.ensures.node.sized.within c.in_ok-put_children.ensures

pub returns-clause-nodes : goal.returns-clause-nodes
returns-clause-nodes c = (found (goal.at.returns-clause-nodes c).In_ok-put_children).0

pub returns-clause-few : goal.returns-clause-few
returns-clause-few c =
    let f : c.put_children.new.nodes ≡ visible_nodes c.args.steps.now c.args.root.now = (found (goal.at.returns-clause-few c).In_ok-put_children).0 in
    omega (arith, few_seen c.args.steps.now c.args.root.now c.put_children.new.nodes f, c.nodes.ensures.node.sized.few)

pub returns-clause-lie : goal.returns-clause-lie
returns-clause-lie c = (found (goal.at.returns-clause-lie c).In_ok-put_children).1
