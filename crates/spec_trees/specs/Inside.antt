-- The nodes in a tree, and trees whose nodes stand over their children.
use Rattle.std.specs.Prelude.{◌≡◌, ℕ, ◌≤◌, List, [], ◌∷◌, slice_get, Some}
use Rattle.spec_trees.specs.declared.tree.Tree.{Tree}
use Rattle.spec_trees.specs.Trees.{pad_of, children_of, span_of, all_spans}

-- a node in a tree: the tree's own, or a child of a node in it
pub data IsNodeIn (t : Tree) : Tree → Type 0 where
  itself : IsNodeIn t t
  inside : (u v : Tree) (k : ℕ) → IsNodeIn t u → slice_get (children_of u) k ≡ Some v → IsNodeIn t v

-- a node of this pad and as many bytes begins where these children begin, and ends no earlier
abbrev pub SpansOver : ℕ → ℕ → List Tree → Type 0
SpansOver pad span [] = Unit {0}
SpansOver pad span (t ∷ ts) = (pad ≡ pad_of t) × (all_spans (t ∷ ts) ≤ span)

-- a node begins with its first child, and its children end within it
abbrev pub StandsOver : Tree → Type 0
StandsOver t = SpansOver (pad_of t) (span_of t) (children_of t)

-- each node in a tree does
abbrev pub StandOver : Tree → Type 0
StandOver t = (u : Tree) → IsNodeIn t u → StandsOver u

-- each node in each of some trees does
abbrev pub StandAll : List Tree → Type 0
StandAll ts = (k : ℕ) (t : Tree) → slice_get ts k ≡ Some t → StandOver t
