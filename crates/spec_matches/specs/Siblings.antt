-- The lists of siblings of a visible tree, whose nodes are told by their numbers in preorder.
use Rattle.std.specs.Prelude.{◌≡◌, ◌↔◌, ℕ, ◌<◌, ◌⊎◌, Bool, false, List, [], ◌∷◌, length, map, option_map, unwrap_or, slice_get}
use Rattle.std.specs.List.{Contains}
use Rattle.spec_trees.specs.declared.visible.VisibleNode.{VisibleNode}
use Rattle.spec_trees.specs.Family.{IsParent}

-- each number is less than all after it
abbrev pub IsRising : List ℕ → Type 0
IsRising [] = Unit {0}
IsRising (x ∷ xs) = ((y : ℕ) → Contains xs y → x < y) × IsRising xs

-- the children of a node, in order
pub record AreChildren (nodes : List VisibleNode) (k : ℕ) (children : List ℕ) : Type 0 where
  pub all : (m : ℕ) → Contains children m ↔ IsParent nodes m k
  pub order : IsRising children

-- a list of siblings: the root alone, or the children of a node
abbrev pub AreSiblings : List VisibleNode → List ℕ → Type 0
AreSiblings nodes siblings =
    (siblings ≡ 0 ∷ []) ⊎ ((k : ℕ) × (k < length nodes) × AreChildren nodes k siblings)

-- whether the node of a number is named
abbrev pub named_at : List VisibleNode → ℕ → Bool
named_at nodes k = unwrap_or (option_map (λ node. node.named) (slice_get nodes k)) false

-- the same of several
abbrev pub nameds : List VisibleNode → List ℕ → List Bool
nameds nodes = map (named_at nodes)
