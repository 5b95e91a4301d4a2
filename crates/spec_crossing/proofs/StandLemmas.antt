-- What stands on a stack that was met can be laid there, layer by layer.
use Rattle.std.proofs.Common.{◌≡◌, ◌∙◌, sym, ap, refl, subst, ℕ, ◌+◌, ◌≤◌, List, [], ◌∷◌, ◌++◌, append_assoc, length, map, slice_get, Option, Some}
use Rattle.spec_trees.specs.declared.tree.Tree.{Tree}
use Rattle.spec_trees.specs.Trees.{span_of, all_spans, tree_depth}
use Rattle.spec_trees.specs.Made.{filling}
use Rattle.spec_packing.specs.Packing.{PackedTree, packed_trees, packed_depths, CoversTree, AllCover}
use Rattle.spec_graph.specs.States.{LeadsTo}
use Rattle.spec_graph.specs.Laying.{Parsing, from_start, IsMet, IsReading, Lays, flat, stood}
use Rattle.spec_graph.specs.Grounded.{IsGrounded}
use Rattle.spec_graph.proofs.ReadingLemmas.{packed_append, cover_filling, cover_spans, cover_span, own_reading}
use Rattle.spec_graph.proofs.SightLemmas.{Facts}
use Rattle.spec_graph.proofs.BaseLemmas.{tree_laid}

-- the depth of a layer below others
depth_at : (over : List PackedTree) (l : PackedTree) (under : List PackedTree) → slice_get (packed_depths (over ++ l ∷ under)) (length over) ≡ Some l.depth
depth_at [] l under = refl
depth_at (x ∷ over) l under = depth_at over l under

-- the tree that a layer below others covers, and its depth
record TreeAt (under : List PackedTree) (l : PackedTree) (d : ℕ) (ts : List Tree) : Type 0 where
  above : List Tree
  tree : Tree
  below : List Tree
  is : ts ≡ above ++ tree ∷ below
  covers : CoversTree l tree
  rest : AllCover under below
  deep : tree_depth tree ≡ d

tree_at : (over : List PackedTree) (l : PackedTree) (under : List PackedTree) (d : ℕ) (ts : List Tree) → AllCover (over ++ l ∷ under) ts → slice_get (map tree_depth ts) (length over) ≡ Some d → TreeAt under l d ts
tree_at [] l under d [] a e = absurd a
tree_at [] l under d (t ∷ ts) a e = record { above = []; tree = t; below = ts; is = refl; covers = a.0; rest = a.1; deep = same (tree_depth t) e }
  where
    same : (n : ℕ) → ◌≡◌ {A = Option ℕ} (Some n) (Some d) → n ≡ d
    same n e = cc
tree_at (x ∷ over) l under d [] a e = absurd a
tree_at (x ∷ over) l under d (t ∷ ts) a e =
    let r = tree_at over l under d ts a.1 e in
    record { above = t ∷ r.above; tree = r.tree; below = r.below; is = ap (λ (w : List Tree). t ∷ w) r.is; covers = r.covers; rest = r.rest; deep = r.deep }

module _ (P : Parsing) (over under : List PackedTree) (l : PackedTree) (at : P.layers ≡ over ++ l ∷ under) where
  abbrev low : List Tree
  low = packed_trees under

  abbrev LaidHere : Parsing → Tree → Type 0
  LaidHere Q t = Lays Q (filling low) (all_spans low) (t ∷ []) (all_spans low + span_of l.tree) (filling (l.tree ∷ []) ++ filling low)

  -- ---- the layer's own tree

  module _ (ground : IsGrounded P) where
    trees_are : packed_trees P.layers ≡ packed_trees over ++ l.tree ∷ low
    trees_are = ap (λ (ls : List PackedTree). packed_trees ls) at ∙ packed_append over (l ∷ under)

    pub own_shallow : tree_depth l.tree ≤ l.depth
    own_shallow = within over (subst (λ (ls : List PackedTree). AllCover ls (packed_trees ls)) at ground.own)
      where
        within : (above : List PackedTree) → AllCover (above ++ l ∷ under) (packed_trees (above ++ l ∷ under)) → tree_depth l.tree ≤ l.depth
        within [] a = a.0.depth
        within (x ∷ above) a = within above a.1

    state : (n : ℕ) × LeadsTo P.goto (filling low) n
    state = ground.states (over ++ l ∷ []) under (at ∙ sym (append_assoc over (l ∷ []) under))

    pub own_laid : LaidHere P l.tree
    own_laid = stood (filling low) (all_spans low) [] (all_spans low) (filling low) l.tree (packed_trees over) low (flat (filling low) (all_spans low))
        (subst (λ (ts : List Tree). IsReading P ts) trees_are (own_reading P ground.own)) refl (state.0, state.1, state.1)

  -- ---- a tree of its depth

  module _ (facts : Facts P) (m : IsMet P) where
    cut : m.stack.stack ≡ (m.begun.extras ++ over) ++ l ∷ under
    cut = m.begun.stack_is ∙ ap (λ (ls : List PackedTree). m.begun.extras ++ ls) at ∙ sym (append_assoc m.begun.extras over (l ∷ under))

    pub deep_laid : (t : Tree) × LaidHere (from_start P) t × (tree_depth t ≡ l.depth)
    deep_laid =
        let above : List PackedTree = m.begun.extras ++ over in
        let w = m.met.deepest (length above) l.depth (subst (λ (ls : List PackedTree). slice_get (packed_depths ls) (length above) ≡ Some l.depth) (sym cut) (depth_at above l under)) in
        let f = tree_at above l under l.depth w.0.stack (subst (λ (ls : List PackedTree). AllCover ls w.0.stack) cut w.2.stack) w.3 in
        let one = tree_laid P facts w.0 w.1 f.above f.below f.tree f.is in
        let read : filling f.below ≡ filling low = sym (cover_filling under f.below f.rest) in
        let place : all_spans f.below ≡ all_spans low = sym (cover_spans under f.below f.rest) in
        let span : span_of f.tree ≡ span_of l.tree = sym (cover_span l f.tree f.covers) in
        let fills : filling (f.tree ∷ []) ≡ filling (l.tree ∷ []) = sym (cover_filling (l ∷ []) (f.tree ∷ []) (f.covers, tt)) in (
          f.tree,
          subst (λ (r : List ℕ). Lays (from_start P) (filling low) (all_spans low) (f.tree ∷ []) (all_spans low + span_of l.tree) (r ++ filling low)) fills
              (subst (λ (n : ℕ). Lays (from_start P) (filling low) (all_spans low) (f.tree ∷ []) (all_spans low + n) (filling (f.tree ∷ []) ++ filling low)) span
              (subst (λ (n : ℕ). Lays (from_start P) (filling low) n (f.tree ∷ []) (n + span_of f.tree) (filling (f.tree ∷ []) ++ filling low)) place
              (subst (λ (r : List ℕ). Lays (from_start P) r (all_spans f.below) (f.tree ∷ []) (all_spans f.below + span_of f.tree) (filling (f.tree ∷ []) ++ r)) read one))),
          f.deep,
        )
