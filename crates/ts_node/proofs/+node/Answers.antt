use Rattle.std.proofs.Common.{◌≡◌, ◌+◌, ◌*◌, arith, List, [], ◌∷◌}
use denote.Param.Weighed.{most, w_this, max_none}
use Rattle.spec_trees.specs.declared.tree.Element.{Element}
use Rattle.ts_node.specs.declared.node.Node.{Node}
use Rattle.ts_node.specs.declared.node.Node.TheDeep.{deep-Shape, size-Node}
use Rattle.ts_node.specs.declared.node.Node.TheView.{size}
use Rattle.ts_node.specs.declared.node.Shape.TheVariants as shape
use Rattle.ts_node.proofs.+node.Goals as goal

-- The measure of a node's drop is twice its depth.
most_deep : (ks : List Node)
    → most (w_this.weight Node size-Node) ks ≡ 2 * most (w_this.weight Node (λ k. size k + 1)) ks
most_deep [] = omega arith
most_deep (k ∷ ks) = omega (arith, most_deep ks)

-- A leaf is as deep as its deepest child.
deep_leaf : (es : List Element) (ks : List Node)
    → deep-Shape (shape.Leaf es ks) ≡ most (w_this.weight Node (λ k. size k + 1)) ks
deep_leaf es ks = max_none _

pub node::Shape::drop-drop_leaf-requires : goal.node::Shape::drop-drop_leaf-requires
node::Shape::drop-drop_leaf-requires t c =
    let deep = deep_leaf c.in-Leaf.elements c.in-Leaf.children in
    (omega (arith, deep, most_deep c.in-Leaf.children, rw c.in-Leaf.is at c.decreases), tt)
