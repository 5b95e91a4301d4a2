-- Where one stack is left in a graph of stacks, and what is known then of all runs.
use Rattle.std.specs.Prelude.{◌≡◌, ℕ, ◌<◌, ◌≤◌, false, List, ◌∷◌, map, slice_get, Some}
use Rattle.spec_trees.specs.declared.tree.Tree.{Tree}
use Rattle.spec_trees.specs.Trees.{is_extra_node}
use Rattle.spec_trees.specs.Made.{IsLeaf}
use Rattle.spec_trees.specs.Choice.{Better}
use Rattle.spec_runs.specs.Configurations.{Configuration}
use Rattle.spec_runs.specs.Runs.{ComesTooDeep, AcceptsTree, StopsAt}
use Rattle.spec_packing.specs.Packing.{PackedTree, PackedStack}
use Rattle.spec_graph.specs.declared.graph.Head.{Head}
use Rattle.spec_graph.specs.declared.graph.Link.{Link}
use Rattle.spec_graph.specs.Laying.{Parsing}
use Rattle.spec_graph.specs.Links.{IsWay}
use Rattle.spec_graph.specs.Outcomes.{GraphAccepts, GraphStopsAt}

-- one way alone leads down from the head to that of the empty stack
pub record IsOneWay (links : List Link) (h : ℕ) (way : List Link) : Type 0 where
  pub down : IsWay links h way 0
  pub only : (other : List Link) → IsWay links h other 0 → other ≡ way

-- the topmost tree of a way is a token that was shifted
pub record EndsWithToken (way : List Link) : Type 0 where
  pub last : Link
  pub rest : List Link
  pub way_is : way ≡ last ∷ rest
  pub leaf : IsLeaf last.tree
  pub fills : is_extra_node last.tree ≡ false

-- no other head stands at the place or past it
abbrev pub StandsAlone : List Head → ℕ → ℕ → Type 0
StandsAlone heads n h =
    (k : ℕ) (other : Head) → slice_get heads k ≡ Some other → n ≤ other.place → k ≡ h

-- the layer of a link
abbrev pub packed_link : Link → PackedTree
packed_link l = record { tree = l.tree; depth = l.depth }

-- the layers of the links of a way, at a place
abbrev pub way_stack : List Link → ℕ → PackedStack
way_stack way place = record { stack = map packed_link way; place = place }

-- All ends that runs have at a configuration are in the graph, from the place on from which runs go
-- on, and before this one: no node would be too deep, a tree that is no worse is accepted, and a
-- head stops.
pub record EndsBefore (P : Parsing) (heads : List Head) (links : List Link) (n : ℕ)
    (d : Configuration) : Type 0 where
  pub shallow : ComesTooDeep P.grammar P.text d → ⊥
  pub accepts : (u : Tree) → AcceptsTree P.grammar P.text d u
      → (t : Tree) × (a : GraphAccepts P heads links t) × (P.place ≤ a.place) × (a.place < n)
      × (Better u t → ⊥)
  pub stops : (stop : ℕ) → StopsAt P.grammar P.text d stop
      → (s : GraphStopsAt P heads stop) × (P.place ≤ s.place) × (s.place < n)
