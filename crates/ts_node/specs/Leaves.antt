-- The leaves of a tree at their places, and the bytes of a text that they stand for.
use Rattle.std.specs.Prelude.{◌≡◌, ℕ, ◌+◌, Bool, true, nat_eq, ◌&&◌, List, [], ◌∷◌, ◌++◌, map, take, drop}
use Rattle.std.specs.List.{list_all, flat_map}
use Rattle.ts_base.specs.Bytes.{Bytes}
use Rattle.spec_trees.specs.declared.tree.Tree.{Tree}
use Rattle.spec_trees.specs.declared.tree.Tree.TheOpen.{Tree-F}
use Rattle.spec_trees.specs.declared.tree.Tree.TheFolds.{para-Tree}
use Rattle.spec_trees.specs.Trees.{span_of, all_spans}

-- ---- leaves

-- a leaf of a tree: the place where its pad begins, and its pad and size
pub record LeafAt : Type 0 where
  pub place : ℕ
  pub pad : ℕ
  pub size : ℕ

-- the leaves of trees one after another, each tree from where the one before ends
abbrev pub leaves_among : List (Tree × (ℕ → List LeafAt)) → ℕ → List LeafAt
leaves_among [] place = []
leaves_among (c ∷ cs) place = c.1 place ++ leaves_among cs (place + span_of c.0)

-- A node without children is a leaf. Else its first child begins where it begins.
abbrev pub leaves_by : ℕ → ℕ → List (Tree × (ℕ → List LeafAt)) → ℕ → List LeafAt
leaves_by pad size [] place = record { place = place; pad = pad; size = size } ∷ []
leaves_by pad size (c ∷ cs) place = leaves_among (c ∷ cs) place

-- the leaves of a node, from those of its children
abbrev pub leaves_step : Tree-F (Tree × (ℕ → List LeafAt)) → ℕ → List LeafAt
leaves_step t place = leaves_by t.pad t.size t.children place

-- the leaves of a tree that begins at a place, in order
abbrev pub leaves_from : Tree → ℕ → List LeafAt
leaves_from = para-Tree (ℕ → List LeafAt) leaves_step

-- the bytes of a text that a leaf stands for: those of its pad, and its own
abbrev pub leaf_bytes : Bytes → LeafAt → Bytes
leaf_bytes w l = take l.pad (drop l.place w) ++ take l.size (drop (l.place + l.pad) w)

-- the same of leaves one after another
abbrev pub leaves_bytes : Bytes → List LeafAt → Bytes
leaves_bytes w ls = flat_map (leaf_bytes w) ls

-- ---- trees without gaps

-- a node of so many bytes is as long as its children together, where it has some
abbrev pub is_filled_by : ℕ → List Tree → Bool
is_filled_by span [] = true
is_filled_by span (t ∷ ts) = nat_eq span (all_spans (t ∷ ts))

-- the same of a node and all below it, from what is so of its children
abbrev pub gapless_step : Tree-F (Tree × Bool) → Bool
gapless_step t =
    is_filled_by (t.pad + t.size) (map (λ c. c.0) t.children) && list_all (λ c. c.1) t.children

-- each node in the tree that has children is as long as they are together
abbrev pub IsGapless : Tree → Type 0
IsGapless t = para-Tree Bool gapless_step t ≡ true
