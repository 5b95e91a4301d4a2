-- What an edit leaves of a node, by its parts.
use Rattle.std.proofs.Common.{◌≡◌, ℕ, ◌+◌, ◌<◌, ◌≤◌, ◌^◌, sym, ap, subst, ◌∙◌, refl, arith, List, [], ◌∷◌, length, set, Option, false, length-set}
use Rattle.std.specs.Prelude.{All}
use Rattle.spec_trees.specs.declared.tree.Tree.{Tree}
use Rattle.spec_trees.specs.declared.tree.Element.{Element}
use Rattle.spec_trees.specs.declared.tree.Tree.TheOpen.{Tree-F}
use Rattle.spec_trees.specs.declared.tree.Tree.TheViews.{roll-Tree}
use Rattle.spec_trees.specs.Trees.{all_nodes, greatest_depth}
use Rattle.spec_trees.specs.Made.{IsNode, remade, loosened, replaced, most_depth}
use Rattle.ts_node.specs.declared.node.Summary.{Summary}
use Rattle.ts_node.specs.declared.node.Leaf.{Leaf}
use Rattle.ts_node.specs.Held.{body_tree, leaf_tree, remade_leaf, HoldsNodes, IsSummary}
use Rattle.ts_node.specs.Falls.{nodes_of_body}
use Rattle.ts_node.proofs.BodyLemmas.{leaf_layer, out_body, out_leaf, depth_of_body, children_are}
use Rattle.ts_node.proofs.WholeLemmas.{holds}

pub length-replaced : (cs : List (ℕ × Tree)) (ts : List Tree) → length (replaced cs ts) ≡ length ts
length-replaced [] ts = refl
length-replaced (c ∷ cs) ts = length-replaced cs (set ts c.0 c.1) ∙ length-set ts c.0 c.1

-- a summary of a node that an edit left
pub record IsRemade (n s : Summary) (new_pad new_size : ℕ) (es : List Element) (ks : List Tree) : Type 0 where
  pub symbol : n.symbol ≡ s.symbol
  pub depth : n.depth ≡ 1 + greatest_depth ks
  pub nodes : n.nodes ≡ 1 + (length es + all_nodes ks)
  pub pad : n.pad ≡ new_pad
  pub size : n.size ≡ new_size
  pub extent : n.extent ≡ s.extent
  pub state : n.state ≡ s.state
  pub settled : n.settled ≡ false
  pub dynamic : n.dynamic ≡ s.dynamic
  pub whole : All HoldsNodes ks

abbrev remade_summary : Summary → ℕ → ℕ → Summary
remade_summary s pad size = record { symbol = s.symbol; depth = 0; nodes = 0; pad = pad; size = size; extent = s.extent; state = s.state; settled = false; production = s.production; dynamic = s.dynamic }

remade_layer : (s : Summary) (p : Option ℕ) (es : List Element) (ks : List Tree) (t : Tree) (pad size : ℕ) (cs : List (ℕ × Tree)) (loose : List ℕ) → body_tree s p es ks ≡ t
    → remade t pad size cs loose ≡ body_tree (remade_summary s pad size) p (loosened loose es) (replaced cs ks)
remade_layer s p es ks t pad size cs loose e =
    ap (λ (x : Tree-F Tree). roll-Tree (record x { pad = pad; size = size; settled = false; elements = loosened loose x.elements; children = replaced cs x.children })) (out_body s p es ks t e)

pub remade_is : (n s : Summary) (p : Option ℕ) (es fs : List Element) (ks us : List Tree) (t : Tree) (pad size : ℕ) (cs : List (ℕ × Tree)) (loose : List ℕ) → body_tree s p es ks ≡ t → fs ≡ loosened loose es → us ≡ replaced cs ks → IsRemade n s pad size fs us
    → body_tree n p fs us ≡ remade t pad size cs loose
remade_is n s p es fs ks us t pad size cs loose e f u r = rw (remade_layer s p es ks t pad size cs loose e, sym f, sym u, r.symbol, r.pad, r.size, r.extent, r.state, r.settled, r.dynamic) refl

pub remade_kept : (n s : Summary) (p : Option ℕ) (es fs : List Element) (ks us : List Tree) (t : Tree) (pad size : ℕ) (cs : List (ℕ × Tree)) (loose : List ℕ) → body_tree s p es ks ≡ t → fs ≡ loosened loose es → us ≡ replaced cs ks → IsRemade n s pad size fs us
    → IsNode (remade t pad size cs loose) → IsSummary n (body_tree n p fs us)
remade_kept n s p es fs ks us t pad size cs loose e f u r k =
    let node : IsNode (body_tree n p fs us) = subst (λ (x : Tree). IsNode x) (sym (remade_is n s p es fs ks us t pad size cs loose e f u r)) k in
    record {
      counted = omega (arith, r.nodes, nodes_of_body n p fs us);
      deep = omega (arith, r.depth, depth_of_body n p fs us);
      node = node;
      whole = holds (body_tree n p fs us) us (children_are n p fs us (body_tree n p fs us) refl) node r.whole;
    }

-- what a remade node has room for
pub record HasRoomStill (es : List Element) (ks : List Tree) : Type 0 where
  pub few : 1 + (length es + all_nodes ks) < 2 ^ 31
  pub shallow : 1 + greatest_depth ks ≤ most_depth

pub room_still : (s : Summary) (p : Option ℕ) (es fs : List Element) (ks us : List Tree) (t : Tree) (pad size : ℕ) (cs : List (ℕ × Tree)) (loose : List ℕ) → body_tree s p es ks ≡ t → fs ≡ loosened loose es → us ≡ replaced cs ks → IsNode (remade t pad size cs loose) → HasRoomStill fs us
room_still s p es fs ks us t pad size cs loose e f u k =
    let n : Summary = remade_summary s pad size in
    let is : remade t pad size cs loose ≡ body_tree n p fs us = remade_layer s p es ks t pad size cs loose e ∙ ap (λ (x : List Element). body_tree n p x (replaced cs ks)) (sym f) ∙ ap (λ (x : List Tree). body_tree n p fs x) (sym u) in
    let j : IsNode (body_tree n p fs us) = subst (λ (x : Tree). IsNode x) is k in
    record {
      few = omega (arith, j.sized.few, nodes_of_body n p fs us);
      shallow = omega (arith, j.sized.shallow, depth_of_body n p fs us);
    }

pub all_within : (n m : ℕ) (cs : List (ℕ × Tree)) → n ≡ m → All (λ change. change.0 < n) cs → All (λ change. change.0 < m) cs
all_within n m cs e h = subst (λ (x : ℕ). All (λ change. change.0 < x) cs) e h

pub all_known : (n m : ℕ) (ks : List ℕ) → n ≡ m → All (λ k. k < n) ks → All (λ k. k < m) ks
all_known n m ks e h = subst (λ (x : ℕ). All (λ k. k < x) ks) e h

-- ---- a leaf

replaced_none : (cs : List (ℕ × Tree)) → replaced cs [] ≡ []
replaced_none [] = refl
replaced_none (c ∷ cs) = replaced_none cs

pub loosened_none : (ks : List ℕ) → loosened ks [] ≡ []
loosened_none [] = refl
loosened_none (k ∷ ks) = loosened_none ks

pub remade_leaf_is : (l : Leaf) (t : Tree) (pad size : ℕ) (cs : List (ℕ × Tree)) (loose : List ℕ) → leaf_tree l ≡ t → leaf_tree (remade_leaf pad size l) ≡ remade t pad size cs loose
remade_leaf_is l t pad size cs loose e = sym (ap (λ (x : Tree-F Tree). roll-Tree (record x { pad = pad; size = size; settled = false; elements = loosened loose x.elements; children = replaced cs x.children })) (out_leaf l t e)
    ∙ ap (λ (es : List Element). roll-Tree (record (leaf_layer (remade_leaf pad size l)) { elements = es; children = replaced cs [] })) (loosened_none loose)
    ∙ ap (λ (ks : List Tree). roll-Tree (record (leaf_layer (remade_leaf pad size l)) { children = ks })) (replaced_none cs))

pub remade_leaf_node : (l : Leaf) (t : Tree) (pad size : ℕ) (cs : List (ℕ × Tree)) (loose : List ℕ) → leaf_tree l ≡ t → IsNode (remade t pad size cs loose) → IsNode (leaf_tree (remade_leaf pad size l))
remade_leaf_node l t pad size cs loose e k = subst (λ (x : Tree). IsNode x) (sym (remade_leaf_is l t pad size cs loose e)) k
