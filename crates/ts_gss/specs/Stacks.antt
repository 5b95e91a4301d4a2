-- Stacks as lists of layers, the topmost first.
use Rattle.std.specs.Prelude.{◌≡◌, ℕ, ◌<◌, suc, Bool, false, List, [], ◌∷◌, length, map, slice_get, Option, Some, None, unwrap_or}
use Rattle.spec_trees.specs.declared.tree.Tree.{Tree}
use Rattle.spec_trees.specs.Trees.{is_extra_node, tree_depth}
use Rattle.ts_gss.specs.declared.layer.Layer.{Layer}
use Rattle.ts_gss.specs.declared.graph.Cell.{Cell}

-- a tree, the state above it, and the greatest depth of the trees for which it stands
abbrev pub packed_layer : Tree → ℕ → ℕ → Layer
packed_layer tree state depth = record { tree = tree; state = state; depth = depth }

-- a tree that stands for itself alone, and the state above it
abbrev pub layer_with : Tree → ℕ → Layer
layer_with tree state = packed_layer tree state (tree_depth tree)

-- the layer of a cell
abbrev pub layer_of : Cell → Layer
layer_of c = packed_layer c.node c.state c.depth

-- the stack of a head, among all stacks
abbrev pub stack_at : List (List Layer) → ℕ → List Layer
stack_at stacks head = unwrap_or (slice_get stacks head) []

-- the trees of a stack
abbrev pub trees_on : List Layer → List Tree
trees_on layers = map (λ l. l.tree) layers

-- the depths of a stack's layers
abbrev pub depths_on : List Layer → List ℕ
depths_on layers = map (λ l. l.depth) layers

-- the state on top of a stack, that of the beginning where it is empty
abbrev pub state_on : List Layer → ℕ
state_on [] = 0
state_on (l ∷ layers) = l.state

-- the depth on top of a stack
abbrev pub depth_on : List Layer → Option ℕ
depth_on [] = None
depth_on (l ∷ layers) = Some l.depth

-- each layer is as deep as its tree
abbrev pub AreExact : List Layer → Type 0
AreExact [] = Unit {0}
AreExact (l ∷ layers) = (l.depth ≡ tree_depth l.tree) × AreExact layers

-- the tree on top of a stack
abbrev pub tree_on : List Layer → Option Tree
tree_on [] = None
tree_on (l ∷ layers) = Some l.tree

-- the stack below the top
abbrev pub under_top : List Layer → List Layer
under_top [] = []
under_top (l ∷ layers) = layers

-- whether an extra is on top
abbrev pub begins_with_extra : List Layer → Bool
begins_with_extra [] = false
begins_with_extra (l ∷ layers) = is_extra_node l.tree

-- The stacks up to this one lie each on that of the number before, and the first of them is empty.
pub record LieInOne (stacks : List (List Layer)) (top : ℕ) : Type 0 where
  pub lowest : stack_at stacks 0 ≡ []
  pub each : (k : ℕ) → k < top
      → (l : Layer) × (stack_at stacks (suc k) ≡ l ∷ stack_at stacks k)

-- and there are no others
pub record IsOneStack (stacks : List (List Layer)) (top : ℕ) : Type 0 where
  pub count : length stacks ≡ suc top
  pub lie : LieInOne stacks top
