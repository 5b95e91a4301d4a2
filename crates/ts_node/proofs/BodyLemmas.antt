-- What the tree of a summary, a production, elements and children says of itself.
use Rattle.std.proofs.Common.{◌≡◌, ℕ, ◌+◌, ◌-◌, ◌<◌, ◌≤◌, ◌^◌, sym, ap, subst, ◌∙◌, refl, arith, List, [], ◌∷◌, length, Option, None, true, false}
use lib.IntN.{ℤ, pos}
use Rattle.ts_core.specs.declared.symbol.Symbol.{Symbol}
use Rattle.spec_trees.specs.declared.tree.Tree.{Tree}
use Rattle.spec_trees.specs.declared.tree.Element.{Element}
use Rattle.spec_trees.specs.declared.tree.Tree.TheOpen.{Tree-F}
use Rattle.spec_trees.specs.declared.tree.Tree.TheViews.{out-Tree, out-roll-Tree}
use Rattle.spec_trees.specs.declared.tree.Tree.TheFolds.{fold-roll-Tree, fold_out-Tree}
use Rattle.spec_trees.specs.Trees.{production_of, children_of, elements_of, is_extra_node, pad_of, size_of, node_count, nodes_step, all_nodes, all_spans, first_pad, tree_depth, depth_step, greatest_depth}
use Rattle.std.specs.Prelude.{All}
use Rattle.spec_trees.specs.Made.{IsNode, node_over, children_count, AreCounted, most_span, most_depth}
use Rattle.ts_node.specs.Falls.{nodes_of_body}
use Rattle.ts_node.specs.declared.node.Leaf.{Leaf}
use Rattle.ts_node.specs.declared.node.Summary.{Summary}
use Rattle.ts_node.specs.Held.{leaf_tree, body_tree, HoldsNodes, IsSummary, Tells}
use Rattle.ts_node.proofs.WholeLemmas.{holds}

abbrev pub layer : Summary → Option ℕ → List Element → List Tree → Tree-F Tree
layer s production elements children = record {
  symbol = s.symbol;
  production = production;
  pad = s.pad;
  size = s.size;
  dynamic = s.dynamic;
  extent = s.extent;
  state = s.state;
  settled = s.settled;
  extra = false;
  elements = elements;
  children = children;
}

abbrev pub leaf_layer : Leaf → Tree-F Tree
leaf_layer l = record {
  symbol = l.symbol;
  production = None;
  pad = l.pad;
  size = l.size;
  dynamic = pos 0;
  extent = l.extent;
  state = l.state;
  settled = l.settled;
  extra = l.extra;
  elements = [];
  children = [];
}

pub out_body : (s : Summary) (p : Option ℕ) (es : List Element) (ks : List Tree) (t : Tree) → body_tree s p es ks ≡ t → out-Tree t ≡ layer s p es ks
out_body s p es ks t e = ap out-Tree (sym e) ∙ out-roll-Tree (layer s p es ks)

pub out_leaf : (l : Leaf) (t : Tree) → leaf_tree l ≡ t → out-Tree t ≡ leaf_layer l
out_leaf l t e = ap out-Tree (sym e) ∙ out-roll-Tree (leaf_layer l)

pub tells : (s : Summary) (p : Option ℕ) (es : List Element) (ks : List Tree) (t : Tree) → body_tree s p es ks ≡ t → IsSummary s (body_tree s p es ks) → Tells s t
tells s p es ks t e k =
    let o : out-Tree t ≡ layer s p es ks = out_body s p es ks t e in
    record {
      symbol = ap (λ (x : Tree-F Tree). x.symbol.0) (sym o);
      pad = ap (λ (x : Tree-F Tree). x.pad) (sym o);
      size = ap (λ (x : Tree-F Tree). x.size) (sym o);
      extent = ap (λ (x : Tree-F Tree). x.extent) (sym o);
      state = ap (λ (x : Tree-F Tree). x.state) (sym o);
      settled = ap (λ (x : Tree-F Tree). x.settled) (sym o);
      dynamic = ap (λ (x : Tree-F Tree). x.dynamic) (sym o);
      nodes = k.counted ∙ ap node_count e;
      depth = k.deep ∙ ap tree_depth e;
      node = subst (λ (x : Tree). IsNode x) e k.node;
      whole = subst (λ (x : Tree). HoldsNodes x) e k.whole;
    }

pub production_is : (s : Summary) (p : Option ℕ) (es : List Element) (ks : List Tree) (t : Tree) → body_tree s p es ks ≡ t → production_of t ≡ p
production_is s p es ks t e = ap (λ (x : Tree-F Tree). x.production) (out_body s p es ks t e)

pub children_are : (s : Summary) (p : Option ℕ) (es : List Element) (ks : List Tree) (t : Tree) → body_tree s p es ks ≡ t → children_of t ≡ ks
children_are s p es ks t e = ap (λ (x : Tree-F Tree). x.children) (out_body s p es ks t e)

pub elements_are : (s : Summary) (p : Option ℕ) (es : List Element) (ks : List Tree) (t : Tree) → body_tree s p es ks ≡ t → elements_of t ≡ es
elements_are s p es ks t e = ap (λ (x : Tree-F Tree). x.elements) (out_body s p es ks t e)

pub leaf_children : (l : Leaf) (t : Tree) → leaf_tree l ≡ t → children_of t ≡ []
leaf_children l t e = ap (λ (x : Tree-F Tree). x.children) (out_leaf l t e)

pub leaf_elements : (l : Leaf) (t : Tree) → leaf_tree l ≡ t → elements_of t ≡ []
leaf_elements l t e = ap (λ (x : Tree-F Tree). x.elements) (out_leaf l t e)

pub leaf_none : (l : Leaf) (t : Tree) → leaf_tree l ≡ t → length (elements_of t) ≡ 0
leaf_none l t e = ap (λ (es : List Element). length es) (leaf_elements l t e)

pub no_elements : (es : List Element) → length es ≡ 0 → es ≡ []
no_elements [] none = refl
no_elements (e ∷ es) none = let f : ⊥ = omega (arith, none) in elim f [ ]

-- elements that are not there have no children to count
pub none_counted : (es : List Element) (ts : List Tree) → length es ≡ 0 → AreCounted es ts
none_counted [] ts none = tt
none_counted (e ∷ es) ts none = let f : ⊥ = omega (arith, none) in elim f [ ]

pub counted : (es : List Element) (ts : List Tree) → children_count es ≡ length ts → AreCounted es ts
counted [] ts own = tt
counted (e ∷ es) ts own = own

pub leaf_production : (l : Leaf) (t : Tree) → leaf_tree l ≡ t → production_of t ≡ None
leaf_production l t e = ap (λ (x : Tree-F Tree). x.production) (out_leaf l t e)

pub depth_of_body : (s : Summary) (p : Option ℕ) (es : List Element) (ks : List Tree) → tree_depth (body_tree s p es ks) ≡ 1 + greatest_depth ks
depth_of_body s p es ks = fold-roll-Tree ℕ depth_step (layer s p es ks)

pub extra_is : (s : Summary) (p : Option ℕ) (es : List Element) (ks : List Tree) (t : Tree) → body_tree s p es ks ≡ t → is_extra_node t ≡ false
extra_is s p es ks t e = ap (λ (x : Tree-F Tree). x.extra) (out_body s p es ks t e)

pub leaf_extra : (l : Leaf) (t : Tree) → leaf_tree l ≡ t → is_extra_node t ≡ l.extra
leaf_extra l t e = ap (λ (x : Tree-F Tree). x.extra) (out_leaf l t e)

all_nodes-length : (ks : List Tree) → length ks ≤ all_nodes ks
all_nodes-length [] = omega arith
all_nodes-length (k ∷ ks) = omega (arith, all_nodes-length ks, fold_out-Tree ℕ nodes_step k)

pub few_children : (s : Summary) (p : Option ℕ) (es : List Element) (ks : List Tree) (t : Tree) → body_tree s p es ks ≡ t → IsSummary s (body_tree s p es ks) → length (children_of t) < 2 ^ 31
few_children s p es ks t e k = rw (children_are s p es ks t e) (omega (arith, k.node.sized.few, nodes_of_body s p es ks, all_nodes-length ks))

-- ---- a node over children

-- what a node over children has room for
pub record HasRoom (es : List Element) (ks : List Tree) : Type 0 where
  pub pad : first_pad ks ≤ all_spans ks
  pub short : all_spans ks ≤ most_span
  pub few : 1 + (length es + all_nodes ks) < 2 ^ 31
  pub shallow : 1 + greatest_depth ks ≤ most_depth
  pub wide : length ks < 2 ^ 31

first_pad_within : (ks : List Tree) → first_pad ks ≤ all_spans ks
first_pad_within [] = omega arith
first_pad_within (k ∷ ks) = omega arith

pub room : (symbol : ℕ) (p : Option ℕ) (dynamic : ℤ) (extent : ℕ) (state : Option ℕ) (es : List Element) (ks : List Tree) → IsNode (node_over symbol p dynamic extent state es ks) → HasRoom es ks
room symbol p dynamic extent state es ks n =
    let s : Summary = record { symbol = record { 0 = symbol }; depth = 0; nodes = 0; pad = first_pad ks; size = all_spans ks - first_pad ks; extent = extent; state = state; settled = true; production = 0; dynamic = dynamic } in
    let t : Tree = node_over symbol p dynamic extent state es ks in
    let a : pad_of t ≡ first_pad ks = ap (λ (x : Tree-F Tree). x.pad) (out-roll-Tree (layer s p es ks)) in
    let b : size_of t ≡ all_spans ks - first_pad ks = ap (λ (x : Tree-F Tree). x.size) (out-roll-Tree (layer s p es ks)) in
    let c : node_count t ≡ 1 + (length es + all_nodes ks) = nodes_of_body s p es ks in
    let d : tree_depth t ≡ 1 + greatest_depth ks = depth_of_body s p es ks in
    record {
      pad = first_pad_within ks;
      short = omega (arith, a, b, first_pad_within ks, n.sized.short);
      few = omega (arith, c, n.sized.few);
      shallow = omega (arith, d, n.sized.shallow);
      wide = omega (arith, c, n.sized.few, all_nodes-length ks);
    }

-- a summary of a node over children
pub record IsOver (s : Summary) (token : Symbol) (total : ℤ) (reach : ℕ) (below : Option ℕ) (es : List Element) (ks : List Tree) : Type 0 where
  pub symbol : s.symbol ≡ token
  pub depth : s.depth ≡ 1 + greatest_depth ks
  pub nodes : s.nodes ≡ 1 + (length es + all_nodes ks)
  pub pad : s.pad ≡ first_pad ks
  pub size : s.size ≡ all_spans ks - first_pad ks
  pub extent : s.extent ≡ reach
  pub state : s.state ≡ below
  pub settled : s.settled ≡ true
  pub dynamic : s.dynamic ≡ total
  pub whole : All HoldsNodes ks

pub over_is : (s : Summary) (symbol : Symbol) (p : Option ℕ) (dynamic : ℤ) (extent : ℕ) (state : Option ℕ) (es : List Element) (ks : List Tree) → IsOver s symbol dynamic extent state es ks → body_tree s p es ks ≡ node_over symbol.0 p dynamic extent state es ks
over_is s symbol p dynamic extent state es ks o = rw (o.symbol, o.pad, o.size, o.extent, o.state, o.settled, o.dynamic) refl

over_node : (s : Summary) (symbol : Symbol) (p : Option ℕ) (dynamic : ℤ) (extent : ℕ) (state : Option ℕ) (es : List Element) (ks : List Tree) → IsOver s symbol dynamic extent state es ks → IsNode (node_over symbol.0 p dynamic extent state es ks) → IsNode (body_tree s p es ks)
over_node s symbol p dynamic extent state es ks o n = subst (λ (x : Tree). IsNode x) (sym (over_is s symbol p dynamic extent state es ks o)) n

pub over_kept : (s : Summary) (symbol : Symbol) (p : Option ℕ) (dynamic : ℤ) (extent : ℕ) (state : Option ℕ) (es : List Element) (ks : List Tree) → IsOver s symbol dynamic extent state es ks → IsNode (node_over symbol.0 p dynamic extent state es ks) → IsSummary s (body_tree s p es ks)
over_kept s symbol p dynamic extent state es ks o n = record {
  counted = omega (arith, o.nodes, nodes_of_body s p es ks);
  deep = omega (arith, o.depth, depth_of_body s p es ks);
  node = over_node s symbol p dynamic extent state es ks o n;
  whole = holds (body_tree s p es ks) ks (children_are s p es ks (body_tree s p es ks) refl) (over_node s symbol p dynamic extent state es ks o n) o.whole;
}
