-- What is answered at a place for a state.
use Rattle.std.specs.Prelude.{◌≡◌, ℕ, suc, ◌+◌, ◌-◌, ◌<◌, ◌≤◌, true, length, drop, Option, Some, None, All}
use Rattle.spec_trees.specs.declared.tree.Tree.{Tree}
use Rattle.spec_trees.specs.declared.tree.Stretch.{Stretch}
use Rattle.spec_trees.specs.Trees.{symbol_of, state_of, elements_of, children_of}
use Rattle.spec_trees.specs.Made.{elements_between, stretch_in, bytes_before, settled_first}
use Rattle.spec_reuse.specs.Places.{IsIn, IsInTree, lead_of}
use Rattle.spec_reuse.specs.Offered.{IsFit, IsTopmost}
use Rattle.ts_offer.specs.declared.offering.Offering.{Offering}
use Rattle.ts_offer.specs.declared.elements.Elements.{Elements}

-- the topmost fit node of the tree that begins at the place, and none just where there is none
abbrev pub IsOfferAt : Tree → ℕ → ℕ → Option Tree → Type 0
IsOfferAt tree place state None = (t : Tree) → IsInTree tree t place → IsFit state t → ⊥
IsOfferAt tree place state (Some t) = IsTopmost tree place state t

-- The node has elements from this number on, up to another, none of them its first. Just so many
-- are settled from there on.
pub record IsSettledRun (node : Tree) (from to : ℕ) : Type 0 where
  pub later : 0 < from
  pub some : from < to
  pub within : to ≤ length (elements_of node)
  pub settled : All (λ e. e.settled ≡ true) (elements_between from to node).elements
  pub far : to ≡ from + settled_first (drop from (elements_of node))

-- Elements of a repetition in the tree, the first of which begins at the place: they are settled,
-- as far as those of the repetition are, and none is its first. The repetition has the symbol, and
-- the state below it.
pub record IsStretchAt (tree : Tree) (place state symbol : ℕ) (s : Stretch) : Type 0 where
  pub node : Tree
  pub at : ℕ
  pub there : IsIn (children_of tree) (lead_of tree) node at
  pub below : state_of node ≡ Some state
  pub named : symbol_of node ≡ symbol
  pub from : ℕ
  pub to : ℕ
  pub run : IsSettledRun node from to
  pub begins : at + bytes_before from (stretch_in node) ≡ place
  pub stretch_is : s ≡ elements_between from to node

-- the element of this number and the one before it have bytes
pub record IsParted (node : Tree) (from : ℕ) : Type 0 where
  pub before : bytes_before (from - 1) (stretch_in node) < bytes_before from (stretch_in node)
  pub after : bytes_before from (stretch_in node) < bytes_before (suc from) (stretch_in node)

-- the elements with their children
abbrev pub stretch_of : Elements → Stretch
stretch_of e = elements_between e.from e.to e.node.now

-- offers from a tree, of which places from this one on may still be asked for
abbrev pub offering : Tree → ℕ → Offering
offering tree least = record { tree = tree; least = least }
