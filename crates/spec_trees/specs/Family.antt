-- How the nodes of a visible tree stand to each other, told by their numbers. In preorder a node's
-- descendants are those after it that are deeper, up to the first that is not.
use Rattle.std.specs.Prelude.{◌≡◌, ℕ, suc, ◌<◌, ◌≤◌, List, [], ◌∷◌, length, Option, Some, slice_get, option_map, unwrap_or}
use Rattle.spec_trees.specs.declared.visible.VisibleNode.{VisibleNode}
use Rattle.spec_trees.specs.declared.visible.Focus.{Focus}

-- the depth of the node of a number
abbrev pub depth_at : List VisibleNode → ℕ → ℕ
depth_at nodes k = unwrap_or (option_map (λ node. node.depth) (slice_get nodes k)) 0

-- m is the first child of k: it comes right after k, and is deeper
pub record IsFirstChild (nodes : List VisibleNode) (k m : ℕ) : Type 0 where
  pub next : m ≡ suc k
  pub within : m < length nodes
  pub deeper : depth_at nodes k < depth_at nodes m

-- m is the next sibling of k: it comes later, at the same depth, and all between them are deeper
pub record IsNextSibling (nodes : List VisibleNode) (k m : ℕ) : Type 0 where
  pub later : k < m
  pub within : m < length nodes
  pub level : depth_at nodes m ≡ depth_at nodes k
  pub between : (i : ℕ) → k < i → i < m → depth_at nodes k < depth_at nodes i

-- m is the parent of k: it is the last node before k that is less deep
pub record IsParent (nodes : List VisibleNode) (k m : ℕ) : Type 0 where
  pub earlier : m < k
  pub above : depth_at nodes m < depth_at nodes k
  pub between : (i : ℕ) → m < i → i < k → depth_at nodes k ≤ depth_at nodes i

-- the node in focus
abbrev pub node_at : Focus → Option VisibleNode
node_at focus = slice_get focus.nodes focus.number

-- each node starts no later than it ends, and ends no later than this place
abbrev pub LieWithin : ℕ → List VisibleNode → Type 0
LieWithin limit [] = Unit {0}
LieWithin limit (node ∷ nodes) =
    (node.start ≤ node.end) × ((node.end ≤ limit) × LieWithin limit nodes)

-- each node lies in its parent
abbrev pub LieInParents : List VisibleNode → Type 0
LieInParents nodes =
    (k m : ℕ) (a b : VisibleNode) → IsParent nodes k m
    → slice_get nodes k ≡ Some a → slice_get nodes m ≡ Some b
    → (b.start ≤ a.start) × (a.end ≤ b.end)
