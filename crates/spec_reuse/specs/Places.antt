-- Where the nodes of a tree stand. A node begins where its pad begins.
use Rattle.std.specs.Prelude.{◌≡◌, ℕ, ◌+◌, ◌-◌, ◌⊎◌, List, ◌∷◌}
use Rattle.spec_trees.specs.declared.tree.Tree.{Tree}
use Rattle.spec_trees.specs.Trees.{children_of, span_of, all_spans}
use Rattle.spec_trees.specs.Made.{IsNode}
use Rattle.spec_trees.specs.Inside.{IsNodeIn}

-- A node in trees that stand one after another, the first of which begins at a place, and the place
-- where it begins itself. The first child of a node begins with it.
pub data IsIn : List Tree → ℕ → Tree → ℕ → Type 0 where
  here : (t : Tree) (ts : List Tree) (place : ℕ) → IsIn (t ∷ ts) place t place
  inside : (t : Tree) (ts : List Tree) (place : ℕ) (u : Tree) (at : ℕ)
      → IsIn (children_of t) place u at → IsIn (t ∷ ts) place u at
  later : (t : Tree) (ts : List Tree) (place : ℕ) (u : Tree) (at : ℕ)
      → IsIn ts (place + span_of t) u at → IsIn (t ∷ ts) place u at

-- How many bytes of a root stand before its first child: those that edits have put there. There are
-- none where no edit has reached it.
abbrev pub lead_of : Tree → ℕ
lead_of t = span_of t - all_spans (children_of t)

-- A node in the tree of a text, and its place. The root begins at the text's start.
abbrev pub IsInTree : Tree → Tree → ℕ → Type 0
IsInTree root u at = ((u ≡ root) × (at ≡ 0)) ⊎ IsIn (children_of root) (lead_of root) u at

-- each node in a tree is one, as a node's type says of itself
abbrev pub IsWhole : Tree → Type 0
IsWhole t = (u : Tree) → IsNodeIn t u → IsNode u
