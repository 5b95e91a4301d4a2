-- A leaf is a node, and is one as an extra and after an edit too.
use Rattle.std.proofs.Common.{◌≡◌, ℕ, ◌+◌, ◌*◌, ◌<◌, ◌≤◌, ◌^◌, sym, ap, subst, ◌∙◌, List, [], true, arith}
use Rattle.std.specs.Prelude.{All}
use Rattle.std.specs.Int.RustNames.{unsigned_abs}
use Rattle.std.proofs.lemmas.List.Elements.{All-nil}
use lib.IntN.{pos}
use Rattle.spec_trees.specs.declared.tree.Tree.{Tree}
use Rattle.spec_trees.specs.declared.tree.Element.{Element}
use Rattle.spec_trees.specs.declared.tree.Tree.TheOpen.{Tree-F}
use Rattle.spec_trees.specs.declared.tree.Tree.TheViews.{out-Tree, roll-Tree, out-roll-Tree}
use Rattle.spec_trees.specs.declared.tree.Tree.TheFolds.{fold-roll-Tree}
use Rattle.spec_trees.specs.Trees.{pad_of, size_of, span_of, node_extent, is_settled, total_of, children_of, elements_of, node_count, nodes_step, tree_depth, depth_step, all_spans}
use Rattle.spec_trees.specs.Made.{IsNode, IsLeaf, AreCounted, AreElementsWell, IsTotalOf, reach_of, EndBy, most_span, as_extra}
use Rattle.ts_node.specs.declared.node.Leaf.{Leaf}
use Rattle.ts_node.specs.Held.{leaf_tree, extra_leaf, HoldsNodes, Tells}
use Rattle.ts_node.proofs.WholeLemmas.{holds}
use Rattle.ts_node.proofs.BodyLemmas.{leaf_layer, out_leaf, leaf_production, leaf_elements}

pub nodes_of_leaf : (l : Leaf) → node_count (leaf_tree l) ≡ 1
nodes_of_leaf l = fold-roll-Tree ℕ nodes_step (leaf_layer l)

pub depth_of_leaf : (l : Leaf) → tree_depth (leaf_tree l) ≡ 1
depth_of_leaf l = fold-roll-Tree ℕ depth_step (leaf_layer l)

pad_is : (l : Leaf) → pad_of (leaf_tree l) ≡ l.pad
pad_is l = ap (λ (x : Tree-F Tree). x.pad) (out-roll-Tree (leaf_layer l))

size_is : (l : Leaf) → size_of (leaf_tree l) ≡ l.size
size_is l = ap (λ (x : Tree-F Tree). x.size) (out-roll-Tree (leaf_layer l))

extent_is : (l : Leaf) → node_extent (leaf_tree l) ≡ l.extent
extent_is l = ap (λ (x : Tree-F Tree). x.extent) (out-roll-Tree (leaf_layer l))

settled_is : (l : Leaf) → is_settled (leaf_tree l) ≡ l.settled
settled_is l = ap (λ (x : Tree-F Tree). x.settled) (out-roll-Tree (leaf_layer l))

total_is : (l : Leaf) → total_of (leaf_tree l) ≡ pos 0
total_is l = ap (λ (x : Tree-F Tree). x.dynamic) (out-roll-Tree (leaf_layer l))

children_are : (l : Leaf) → children_of (leaf_tree l) ≡ []
children_are l = ap (λ (x : Tree-F Tree). x.children) (out-roll-Tree (leaf_layer l))

elements_are : (l : Leaf) → elements_of (leaf_tree l) ≡ []
elements_are l = ap (λ (x : Tree-F Tree). x.elements) (out-roll-Tree (leaf_layer l))

none_is_modest : (n : ℕ) → unsigned_abs (pos 0) ≤ 2 ^ 31 * n
none_is_modest n = omega arith

pub leaf_node : (l : Leaf) → l.pad + l.size ≤ most_span → (l.settled ≡ true → l.pad + l.size < l.extent) → IsNode (leaf_tree l)
leaf_node l short past = record {
  sized = record {
    few = omega (arith, nodes_of_leaf l);
    short = omega (arith, short, pad_is l, size_is l);
    within = subst (λ (ks : List Tree). all_spans ks ≤ span_of (leaf_tree l)) (sym (children_are l)) (omega arith);
    shallow = omega (arith, depth_of_leaf l);
  };
  counted = subst (λ (es : List Element). AreCounted es (children_of (leaf_tree l))) (sym (elements_are l)) tt;
  totalled = subst (λ (es : List Element). IsTotalOf (total_of (leaf_tree l)) es (children_of (leaf_tree l))) (sym (elements_are l)) tt;
  elements = subst (λ (es : List Element). AreElementsWell es (children_of (leaf_tree l))) (sym (elements_are l)) tt;
  modest = rw (total_is l) (none_is_modest (node_count (leaf_tree l)));
  settled = λ h. record {
    past = let p : l.pad + l.size < l.extent = past (sym (settled_is l) ∙ h) in omega (arith, p, pad_is l, size_is l, extent_is l);
    inner = subst (λ (ks : List Tree). All (λ child. is_settled child ≡ true) ks) (sym (children_are l)) (All-nil (λ child. is_settled child ≡ true));
    covers = subst (λ (ks : List Tree). EndBy (node_extent (leaf_tree l)) 0 ks) (sym (children_are l)) tt;
    elements = subst (λ (es : List Element). All (λ e. e.settled ≡ true) es) (sym (elements_are l)) (All-nil (λ (e : Element). e.settled ≡ true));
    reach = let r : reach_of (elements_of (leaf_tree l)) (children_of (leaf_tree l)) ≡ 0 = ap (λ (es : List Element). reach_of es (children_of (leaf_tree l))) (elements_are l) in omega (arith, r);
  };
}

short_leaf : (l : Leaf) → IsNode (leaf_tree l) → l.pad + l.size ≤ most_span
short_leaf l n = omega (arith, n.sized.short, pad_is l, size_is l)

past_leaf : (l : Leaf) → IsNode (leaf_tree l) → l.settled ≡ true → l.pad + l.size < l.extent
past_leaf l n h = let p : span_of (leaf_tree l) < node_extent (leaf_tree l) = (n.settled (settled_is l ∙ h)).past in omega (arith, p, pad_is l, size_is l, extent_is l)

pub extra_leaf_node : (l : Leaf) → IsNode (leaf_tree l) → IsNode (leaf_tree (extra_leaf l))
extra_leaf_node l n = leaf_node (extra_leaf l) (short_leaf l n) (past_leaf l n)

pub as_extra_is : (l : Leaf) (t : Tree) → leaf_tree l ≡ t → leaf_tree (extra_leaf l) ≡ as_extra t
as_extra_is l t e = ap (λ (x : Tree-F Tree). roll-Tree (record x { extra = true })) (sym (out_leaf l t e))

pub tells_leaf : (l : Leaf) → IsNode (leaf_tree l) → Tells (record { symbol = l.symbol; depth = 1; nodes = 1; pad = l.pad; size = l.size; extent = l.extent; state = l.state; settled = l.settled; production = 0; dynamic = pos 0 }) (leaf_tree l)
tells_leaf l n =
    let o : leaf_layer l ≡ out-Tree (leaf_tree l) = sym (out-roll-Tree (leaf_layer l)) in
    record {
      symbol = ap (λ (x : Tree-F Tree). x.symbol.0) o;
      pad = ap (λ (x : Tree-F Tree). x.pad) o;
      size = ap (λ (x : Tree-F Tree). x.size) o;
      extent = ap (λ (x : Tree-F Tree). x.extent) o;
      state = ap (λ (x : Tree-F Tree). x.state) o;
      settled = ap (λ (x : Tree-F Tree). x.settled) o;
      dynamic = ap (λ (x : Tree-F Tree). x.dynamic) o;
      nodes = sym (nodes_of_leaf l);
      depth = sym (depth_of_leaf l);
      node = n;
      whole = holds (leaf_tree l) [] (children_are l) n (All-nil HoldsNodes);
    }

pub is_leaf : (l : Leaf) (t : Tree) → leaf_tree l ≡ t → IsLeaf t
is_leaf l t e = record { production = leaf_production l t e; elements = leaf_elements l t e }
