-- The parts of a marked node, and what is added up over it.
use Rattle.std.proofs.Common.{◌≡◌, ◌∙◌, sym, ap, refl, ℕ, zero, suc, ◌+◌, ◌-◌, ◌≤◌, arith, false, not, ◌&&◌, List, [], ◌∷◌, length, map}
use Rattle.ts_text.specs.declared.edit.Edit.{Edit}
use Rattle.spec_trees.specs.declared.tree.Tree.{Tree}
use Rattle.spec_trees.specs.declared.tree.Element.{Element}
use Rattle.spec_trees.specs.declared.tree.Tree.TheOpen.{Tree-F}
use Rattle.spec_trees.specs.declared.tree.Tree.TheViews.{roll-Tree, out-Tree, roll-out-Tree, out-roll-Tree}
use Rattle.spec_trees.specs.declared.tree.Tree.TheFolds.{para-roll-Tree, fold_out-Tree}
use Rattle.spec_trees.specs.Trees.{symbol_of, state_of, children_of, elements_of, pad_of, size_of, span_of, all_spans, node_extent, is_settled, total_of, node_count, nodes_step, all_nodes, tree_depth, depth_step, greatest_depth}
use Rattle.spec_reuse.specs.Places.{lead_of}
use Rattle.spec_reuse.specs.Changes.{is_met, moved}
use Rattle.spec_reuse.specs.Marked.{Marking, marked_step, marked_below, all_marked, marked_elements, marked}
use Rattle.ts_marks.proofs.ElementLemmas.{length-marked}
use Rattle.spec_marked.proofs.MovedLemmas.{moved_rises}

-- ---- below the root

abbrev layer : Edit → Tree → ℕ → Tree-F Tree
layer e t place = record (out-Tree t) {
  pad = moved e (place + pad_of t) - moved e place;
  size = moved e (place + span_of t) - moved e (place + pad_of t);
  settled = is_settled t && not (is_met e.parts place (node_extent t));
  elements = marked_elements e (elements_of t) (children_of t) place;
  children = all_marked e (children_of t) place;
}

firsts : (e : Edit) (ts : List Tree) → map (λ (c : Tree × Marking). c.0) (map (λ (t : Tree). (t, marked_below e t)) ts) ≡ ts
firsts e [] = refl
firsts e (t ∷ ts) = ap (λ (xs : List Tree). t ∷ xs) (firsts e ts)

below_is : (e : Edit) (t : Tree) (place : ℕ) → marked_below e t place ≡ roll-Tree (layer e t place)
below_is e t place =
    ap (λ (f : Marking). f place) (ap (marked_below e) (sym (roll-out-Tree t)) ∙ para-roll-Tree Marking (marked_step e) (out-Tree t))
    ∙ ap (λ (ks : List Tree). roll-Tree (record (layer e t place) { elements = marked_elements e (elements_of t) ks place })) (firsts e (children_of t))

out_is : (e : Edit) (t : Tree) (place : ℕ) → out-Tree (marked_below e t place) ≡ layer e t place
out_is e t place = ap out-Tree (below_is e t place) ∙ out-roll-Tree (layer e t place)

pub symbol_is : (e : Edit) (t : Tree) (place : ℕ) → symbol_of (marked_below e t place) ≡ symbol_of t
symbol_is e t place = ap (λ (x : Tree-F Tree). x.symbol.0) (out_is e t place)

pub state_is : (e : Edit) (t : Tree) (place : ℕ) → state_of (marked_below e t place) ≡ state_of t
state_is e t place = ap (λ (x : Tree-F Tree). x.state) (out_is e t place)

pub settled_is : (e : Edit) (t : Tree) (place : ℕ) → is_settled (marked_below e t place) ≡ (is_settled t && not (is_met e.parts place (node_extent t)))
settled_is e t place = ap (λ (x : Tree-F Tree). x.settled) (out_is e t place)

pub children_are : (e : Edit) (t : Tree) (place : ℕ) → children_of (marked_below e t place) ≡ all_marked e (children_of t) place
children_are e t place = ap (λ (x : Tree-F Tree). x.children) (out_is e t place)

pub elements_are : (e : Edit) (t : Tree) (place : ℕ) → elements_of (marked_below e t place) ≡ marked_elements e (elements_of t) (children_of t) place
elements_are e t place = ap (λ (x : Tree-F Tree). x.elements) (out_is e t place)

pub total_is : (e : Edit) (t : Tree) (place : ℕ) → total_of (marked_below e t place) ≡ total_of t
total_is e t place = ap (λ (x : Tree-F Tree). x.dynamic) (out_is e t place)

pub span_is : (e : Edit) (t : Tree) (place : ℕ) → span_of (marked_below e t place) ≡ moved e (place + span_of t) - moved e place
span_is e t place =
    let p : pad_of (marked_below e t place) ≡ moved e (place + pad_of t) - moved e place = ap (λ (x : Tree-F Tree). x.pad) (out_is e t place) in
    let s : size_of (marked_below e t place) ≡ moved e (place + span_of t) - moved e (place + pad_of t) = ap (λ (x : Tree-F Tree). x.size) (out_is e t place) in
    omega (
      arith,
      p,
      s,
      moved_rises e place (place + pad_of t) (omega arith),
      moved_rises e (place + pad_of t) (place + span_of t) (omega arith),
    )

pub spans_are : (e : Edit) (ts : List Tree) (place : ℕ) → all_spans (all_marked e ts place) ≡ moved e (place + all_spans ts) - moved e place
spans_are e [] place =
    let p : place + 0 ≡ place = omega arith in
    let q : moved e (place + 0) ≡ moved e place = ap (moved e) p in
    omega (arith, q)
spans_are e (t ∷ ts) place =
    let p : place + span_of t + all_spans ts ≡ place + (span_of t + all_spans ts) = omega arith in
    let q : moved e (place + span_of t + all_spans ts) ≡ moved e (place + (span_of t + all_spans ts)) = ap (moved e) p in
    omega (
      arith,
      q,
      span_is e t place,
      spans_are e ts (place + span_of t),
      moved_rises e place (place + span_of t) (omega arith),
      moved_rises e (place + span_of t) (place + span_of t + all_spans ts) (omega arith),
    )

-- ---- the root

abbrev top_layer : Edit → Tree → Tree-F Tree
top_layer e t = record (out-Tree t) {
  pad = moved e (pad_of t);
  size = moved e (span_of t) - moved e (pad_of t);
  settled = false;
  elements = marked_elements e (elements_of t) (children_of t) (lead_of t);
  children = all_marked e (children_of t) (lead_of t);
}

root_is : (e : Edit) (t : Tree) → out-Tree (marked e t) ≡ top_layer e t
root_is e t = out-roll-Tree (top_layer e t)

pub root_children : (e : Edit) (t : Tree) → children_of (marked e t) ≡ all_marked e (children_of t) (lead_of t)
root_children e t = ap (λ (x : Tree-F Tree). x.children) (root_is e t)

pub root_elements : (e : Edit) (t : Tree) → elements_of (marked e t) ≡ marked_elements e (elements_of t) (children_of t) (lead_of t)
root_elements e t = ap (λ (x : Tree-F Tree). x.elements) (root_is e t)

pub root_total : (e : Edit) (t : Tree) → total_of (marked e t) ≡ total_of t
root_total e t = ap (λ (x : Tree-F Tree). x.dynamic) (root_is e t)

pub root_unsettled : (e : Edit) (t : Tree) → is_settled (marked e t) ≡ false
root_unsettled e t = ap (λ (x : Tree-F Tree). x.settled) (root_is e t)

pub root_span : (e : Edit) (t : Tree) → span_of (marked e t) ≡ moved e (span_of t)
root_span e t =
    let p : pad_of (marked e t) ≡ moved e (pad_of t) = ap (λ (x : Tree-F Tree). x.pad) (root_is e t) in
    let s : size_of (marked e t) ≡ moved e (span_of t) - moved e (pad_of t) = ap (λ (x : Tree-F Tree). x.size) (root_is e t) in
    omega (arith, p, s, moved_rises e (pad_of t) (span_of t) (omega arith))

-- ---- as many nodes, and as deep

depth_is : (t : Tree) → tree_depth t ≡ 1 + greatest_depth (children_of t)
depth_is t = fold_out-Tree ℕ depth_step t

count_is : (t : Tree) → node_count t ≡ 1 + (length (elements_of t) + all_nodes (children_of t))
count_is t = fold_out-Tree ℕ nodes_step t

pub length_is : (e : Edit) (ts : List Tree) (place : ℕ) → length (all_marked e ts place) ≡ length ts
length_is e [] place = refl
length_is e (t ∷ ts) place = ap suc (length_is e ts (place + span_of t))

abbrev pub IsAsGreat : Tree → Tree → Type 0
IsAsGreat u t = (node_count u ≡ node_count t) × (tree_depth u ≡ tree_depth t)

abbrev AreAsGreat : List Tree → List Tree → Type 0
AreAsGreat us ts = (all_nodes us ≡ all_nodes ts) × (greatest_depth us ≡ greatest_depth ts)

-- two nodes with as many elements, over children that are as great
great_over : (u t : Tree) → length (elements_of u) ≡ length (elements_of t) → AreAsGreat (children_of u) (children_of t) → IsAsGreat u t
great_over u t many great =
    (omega (arith, count_is u, count_is t, many, great.0), omega (arith, depth_is u, depth_is t, great.1))

many_below : (e : Edit) (t : Tree) (place : ℕ) → length (elements_of (marked_below e t place)) ≡ length (elements_of t)
many_below e t place = ap (λ (es : List Element). length es) (elements_are e t place) ∙ length-marked e (elements_of t) (children_of t) place

many_root : (e : Edit) (t : Tree) → length (elements_of (marked e t)) ≡ length (elements_of t)
many_root e t = ap (λ (es : List Element). length es) (root_elements e t) ∙ length-marked e (elements_of t) (children_of t) (lead_of t)

great_by : (us ts over : List Tree) → us ≡ over → AreAsGreat over ts → AreAsGreat us ts
great_by us ts over is great = (ap all_nodes is ∙ great.0, ap greatest_depth is ∙ great.1)

great_list : (n : ℕ) (e : Edit) → ((t : Tree) (place : ℕ) → tree_depth t ≤ n → IsAsGreat (marked_below e t place) t) → (ts : List Tree) (place : ℕ) → greatest_depth ts ≤ n → AreAsGreat (all_marked e ts place) ts
great_list n e below [] place h = (refl, refl)
great_list n e below (t ∷ ts) place h =
    let a = below t place (omega (arith, h)) in
    let b = great_list n e below ts (place + span_of t) (omega (arith, h)) in
    (omega (arith, a.0, b.0), omega (arith, a.1, b.1))

great_below : (n : ℕ) (e : Edit) (t : Tree) (place : ℕ) → tree_depth t ≤ n → IsAsGreat (marked_below e t place) t
great_below zero e t place h = absurd (omega (arith, h, depth_is t))
great_below (suc n) e t place h =
    great_over (marked_below e t place) t (many_below e t place)
    (great_by (children_of (marked_below e t place)) (children_of t) (all_marked e (children_of t) place) (children_are e t place)
    (great_list n e (great_below n e) (children_of t) place (omega (arith, h, depth_is t))))

pub as_great : (e : Edit) (t : Tree) (place : ℕ) → IsAsGreat (marked_below e t place) t
as_great e t place = great_below (tree_depth t) e t place (omega arith)

pub root_as_great : (e : Edit) (t : Tree) → IsAsGreat (marked e t) t
root_as_great e t =
    great_over (marked e t) t (many_root e t)
    (great_by (children_of (marked e t)) (children_of t) (all_marked e (children_of t) (lead_of t)) (root_children e t)
    (great_list (greatest_depth (children_of t)) e (λ u place h. as_great e u place) (children_of t) (lead_of t) (omega arith)))
