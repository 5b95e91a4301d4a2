use Rattle.std.proofs.Common.{◌≡◌, sym, subst}
use Rattle.spec_trees.specs.Made.{IsNode}
use Rattle.ts_node.specs.declared.node.Leaf.{Leaf}
use Rattle.ts_node.specs.Held.{leaf_tree, extra_leaf}
use Rattle.ts_node.proofs.LeafLemmas.{extra_leaf_node}
use Rattle.ts_node.proofs.node.Node.as_extra.Goals as goal

pub invariant_of-result : goal.invariant_of-result
invariant_of-result c =
    let e : c.as_extra.result ≡ extra_leaf c.in-Leaf.leaf = c.as_extra.ensures in
    let k : IsNode (leaf_tree c.in-Leaf.leaf) = rw c.in-Leaf.is at c.self.invariant in
    subst (λ (l : Leaf). IsNode (leaf_tree l)) (sym e) (extra_leaf_node c.in-Leaf.leaf k)
