-- What a parser knows of its own trees, of all trees in a graph of stacks; and that it is kept where
-- a graph grows.
use Rattle.std.specs.Prelude.{◌≡◌, ◌<◌, false, [], ◌∷◌, slice_get, Some, None}
use Rattle.std.specs.List.{Contains}
use Rattle.ts_base.specs.Bytes.{Bytes}
use Rattle.ts_core.specs.declared.flat.FlatGrammar.{FlatGrammar}
use Rattle.spec_trees.specs.Trees.{is_extra_node, state_of}
use Rattle.spec_forced.specs.Sound.{States, StandsForState, AllSound, HasState}
use Rattle.spec_graph.specs.declared.graph.Head.{Head}
use Rattle.spec_graph.specs.declared.graph.Link.{Link}
use Rattle.ts_graph.specs.declared.view.GraphView.{GraphView}
use Rattle.ts_graph.specs.Down.{place_at}
use Rattle.ts_steps.specs.Heads.{IsOwnWithin}
use Rattle.ts_reductions.specs.Sound.{Base}

-- a parser of the grammar made the trees of the graph
abbrev pub AreOwn : FlatGrammar → GraphView → Type 0
AreOwn g graph = (l : Link) → Contains graph.links l → IsOwnWithin g l.tree

-- The trees of the graph stand: the nodes in each are sound at their own places; one that has a
-- state stands for the state of the head below it, and has this state if it is no extra; and none
-- has a state that ends past the stack from which runs go on.
pub record StandOnGraph (g : FlatGrammar) (states : States) (text : Bytes) (base : Base)
    (graph : GraphView) : Type 0 where
  pub inner : (l : Link) → Contains graph.links l
      → AllSound g states text (l.tree ∷ []) (place_at graph.heads l.below)
  pub stands : (l : Link) (head : Head) → Contains graph.links l
      → slice_get graph.heads l.below ≡ Some head → HasState l.tree
      → StandsForState g states text head.place head.state l.tree
      × (is_extra_node l.tree ≡ false → state_of l.tree ≡ Some head.state)
  pub none : (l : Link) → Contains graph.links l → base.place < place_at graph.heads l.above
      → state_of l.tree ≡ None

-- Where a parser made the trees of the first graph, it made those of the second; and where they
-- stand besides, so do these.
pub record KeepsTrees (g : FlatGrammar) (text : Bytes) (base : Base) (old new : GraphView)
    : Type 0 where
  pub own : AreOwn g old → AreOwn g new
  pub stand : (states : States) → AreOwn g old → StandOnGraph g states text base old
      → StandOnGraph g states text base new
