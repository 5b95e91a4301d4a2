-- Each part of a node is smaller than the node: what a recursion down a tree ends by. For proofs
-- alone.
use Rattle.std.specs.Prelude.{ℕ, ◌+◌, ◌-◌, ◌*◌, ◌≤◌, ◌≡◌, max, false, List, [], ◌∷◌, ◌++◌, Option, Some, None, length}
use Rattle.std.proofs.Common.{arith, length-append}
use denote.Param.Weighed.{most}
use Rattle.spec_trees.specs.declared.tree.Tree.{Tree}
use Rattle.spec_trees.specs.declared.tree.Stretch.{Stretch}
use Rattle.spec_trees.specs.declared.tree.Element.{Element}
use Rattle.spec_trees.specs.declared.tree.Tree.TheFolds.{fold-roll-Tree, fold_out-Tree}
use Rattle.ts_node.specs.declared.node.Summary.{Summary}
use Rattle.ts_node.specs.declared.node.Kind.{Kind}
use Rattle.ts_node.specs.declared.node.Kind.TheVariants as kind
use Rattle.ts_node.specs.declared.rule.RuleBody.{RuleBody}
use Rattle.ts_node.specs.declared.rule.RuleBody.TheVariants as form
use Rattle.ts_node.specs.declared.single.SingleBody.{SingleBody}
use Rattle.ts_node.specs.declared.single.SingleBody.TheVariants as single
use Rattle.ts_node.specs.declared.node.Shape.{Shape}
use Rattle.ts_node.specs.declared.node.Shape.TheVariants as shape
use Rattle.ts_node.specs.declared.node.Node.TheDeep.{deep-Kind, deep-RuleBody, deep-SingleBody, deep-Shape}
use Rattle.spec_trees.specs.Trees.{node_count, nodes_step, all_nodes}
use Rattle.ts_node.specs.Held.{node_tree, body_of, single_of, body_tree, rule_tree, stretch_of, HasNoEmptyPart}

-- For proofs alone: a node counts one, one for each of its elements, and the nodes of its children.
pub nodes_of_body : (s : Summary) (production : Option ℕ) (es : List Element) (ks : List Tree)
    → node_count (body_tree s production es ks) ≡ 1 + (length es + all_nodes ks)
nodes_of_body s production es ks = fold-roll-Tree ℕ nodes_step (record {
  symbol = s.symbol;
  production = production;
  pad = s.pad;
  size = s.size;
  dynamic = s.dynamic;
  extent = s.extent;
  state = s.state;
  settled = s.settled;
  extra = false;
  elements = es;
  children = ks;
})

-- For proofs alone: the greatest size of some children is bounded by the nodes of all of them.
most_le : (ks : List Tree) → most (λ k. 4 * node_count k + 1 + 1) ks ≤ 4 * all_nodes ks + 2
most_le [] = omega arith
most_le (k ∷ ks) = omega (arith, most_le ks)

-- For proofs alone: what is in a node of this kind is smaller than the node.
pub kind_falls : (k : Kind) → max (deep-Kind k) 0 ≤ 4 * node_count (node_tree k) + 1
kind_falls (kind.Leaf leaf) = omega arith
kind_falls (kind.Rule body) = omega arith
kind_falls (kind.Repetition body) = omega arith
kind_falls (kind.Single body) = omega arith

-- For proofs alone: the body of a rule's node is smaller than the node.
pub body_falls : (b : RuleBody) → max (deep-RuleBody b) 0 ≤ 4 * node_count (body_of b)
body_falls (form.One body) = omega (arith, fold_out-Tree ℕ nodes_step body)
body_falls (form.Two body) = omega (arith, fold_out-Tree ℕ nodes_step body)
body_falls (form.Three body) = omega (arith, fold_out-Tree ℕ nodes_step body)
body_falls (form.Four body) = omega (arith, fold_out-Tree ℕ nodes_step body)
body_falls (form.Many body) = omega (arith, fold_out-Tree ℕ nodes_step body)

-- For proofs alone: the body of a repetition of one element is smaller than the node.
pub single_body_falls : (b : SingleBody) → max (deep-SingleBody b) 0 ≤ 4 * node_count (single_of b)
single_body_falls (single.One body) = omega (arith, fold_out-Tree ℕ nodes_step body)
single_body_falls (single.Two body) = omega (arith, fold_out-Tree ℕ nodes_step body)

-- For proofs alone: the children of a rule's body are smaller than the body.
pub children_fall : (s : Summary) (ks : List Tree)
    → max (most (λ k. 4 * node_count k + 1 + 1) ks) 0 ≤ 4 * node_count (rule_tree s ks) - 1
children_fall s ks = omega (arith, most_le ks, nodes_of_body s (Some s.production) [] ks)

-- For proofs alone: the children of a repetition without a run are smaller than its body.
pub single_falls : (s : Summary) (es : List Element) (ks : List Tree)
    → max (most (λ k. 4 * node_count k + 1 + 1) ks) 0 ≤ 4 * node_count (body_tree s None es ks) - 1
single_falls s es ks = omega (arith, most_le ks, nodes_of_body s None es ks)

-- For proofs alone: the run of a repetition's node is smaller than the node.
pub run_falls : (s : Summary) (run : Stretch)
    → max (4 * (length run.elements + all_nodes run.children) + 2 + 1) 0
    ≤ 4 * node_count (body_tree s None run.elements run.children)
run_falls s run = omega (arith, nodes_of_body s None run.elements run.children)

-- For proofs alone: two lists of trees, one after the other, have the nodes of both.
pub all_nodes-append : (xs ys : List Tree) → all_nodes (xs ++ ys) ≡ all_nodes xs + all_nodes ys
all_nodes-append [] ys = omega arith
all_nodes-append (x ∷ xs) ys = omega (arith, all_nodes-append xs ys)

-- For proofs alone: what is in a run of this shape is smaller than the run.
pub shape_falls : (s : Shape) → HasNoEmptyPart s
    → max (deep-Shape s) 0
    ≤ 4 * (length (stretch_of s).elements + all_nodes (stretch_of s).children) + 2
shape_falls (shape.Leaf elements children) h = omega (arith, most_le children)
shape_falls (shape.Branch left right) h =
    omega (
      arith,
      length-append left.elements right.elements,
      all_nodes-append left.children right.children,
      h.0,
      h.1,
    )
