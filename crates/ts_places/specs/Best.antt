-- The best tree that a graph accepts at some of its heads.
use Rattle.std.specs.Prelude.{◌≡◌, ℕ, suc, ◌⊎◌, false, List, [], ◌∷◌, ◌++◌, length, reverse, Option, Some}
use Rattle.std.specs.List.{Contains}
use Rattle.ts_base.specs.Bytes.{Bytes}
use Rattle.ts_core.specs.declared.flat.FlatGrammar.{FlatGrammar}
use Rattle.spec_trees.specs.declared.tree.Tree.{Tree}
use Rattle.spec_trees.specs.Trees.{is_extra_node, bare}
use Rattle.spec_trees.specs.Made.{accepted}
use Rattle.spec_trees.specs.Choice.{IsInForm}
use Rattle.spec_runs.specs.Configurations.{AreExtras}
use Rattle.spec_graph.specs.declared.graph.Link.{Link}
use Rattle.spec_graph.specs.Links.{IsWay, way_trees}
use Rattle.spec_graph.specs.Outcomes.{GraphAccepts}
use Rattle.ts_graph.specs.declared.view.GraphView.{GraphView}
use Rattle.ts_graph.specs.declared.ways.Way.{Way}
use Rattle.ts_graph.specs.Ways.{AreAt, TakesFilled}
use Rattle.ts_table.specs.declared.view.ParseTable.{ParseTable}
use Rattle.ts_reductions.specs.SoundLinks.{bare_links}
use Rattle.ts_reductions.specs.Sound.{parsing_of, IsSoundOver}
use Rattle.ts_steps.specs.Accepting.{IsWholeRoot}
use Rattle.ts_places.specs.Choosing.{Withstands, HasForm}
use Rattle.ts_places.specs.Ends.{Accepts}

-- ---- what is asked for

-- a sound graph, the size of the text, and heads that accept
pub record CanChoose (t : ParseTable) (text : Bytes) (g : GraphView) (size : ℕ) (heads : List ℕ)
    : Type 0 where
  pub sound : IsSoundOver t text g
  pub size_is : size ≡ length text
  pub each : (h : ℕ) → Contains heads h → Accepts (parsing_of t text) g.heads h

-- the graph accepts the tree at one of these heads
abbrev pub AcceptsAmong : ParseTable → Bytes → GraphView → List ℕ → Tree → Type 0
AcceptsAmong t text g heads u =
    (a : GraphAccepts (parsing_of t text) g.heads (bare_links g.links) u)
    × Contains heads a.head

-- the node is the root of all that lies on a way from the head down to the empty stack
pub record IsRootOn (g : GraphView) (size h : ℕ) (node : Tree) : Type 0 where
  pub way : List Link
  pub is : IsWay g.links h way 0
  pub root : IsWholeRoot size (way_trees way) node

-- The best of the trees that the graph accepts at these heads, and none where it accepts none.
pub record IsBestOn (t : ParseTable) (text : Bytes) (g : GraphView) (heads : List ℕ)
    (best : Option Tree) : Type 0 where
  pub accepted : (b : Tree) → best ≡ Some b → AcceptsAmong t text g heads (bare b)
  pub root : (b : Tree) → best ≡ Some b
      → (h : ℕ) × Contains heads h × IsRootOn g (length text) h b
  pub form : HasForm t.grammar best
  pub all : (u : Tree) → AcceptsAmong t text g heads u → Withstands best u

-- ---- one head, one way

-- The best tree so far was kept, or a root at one of these heads, than which neither it nor any
-- tree that the graph accepts at them is better.
pub record KeepsRoots (t : ParseTable) (text : Bytes) (g : GraphView) (heads : List ℕ)
    (old new : Option Tree) : Type 0 where
  pub all : (u : Tree) → AcceptsAmong t text g heads u → Withstands new u
  pub others : (u : Tree) → Withstands old u → Withstands new u
  pub from : (b : Tree) → new ≡ Some b
      → (old ≡ Some b) ⊎ ((h : ℕ) × Contains heads h × IsRootOn g (length text) h b)
  pub form : HasForm t.grammar new

-- a head that accepts, and a way from it as far as the root
pub record CanTakeRoot (t : ParseTable) (text : Bytes) (g : GraphView) (size h : ℕ) (way : Way)
    : Type 0 where
  pub sound : IsSoundOver t text g
  pub size_is : size ≡ length text
  pub accepts : Accepts (parsing_of t text) g.heads h
  pub taken : List Link
  pub at : AreAt g.links way.links taken
  pub takes : TakesFilled g.links h 1 taken way.below

-- The node is a root of the grammar: that at the end of this way, with the extras on it, and those
-- that lie below it, down to the empty stack.
pub record IsRootBy (g : FlatGrammar) (graph : GraphView) (size h : ℕ) (way : Way) (node : Tree)
    : Type 0 where
  pub above : List Link
  pub last : Link
  pub below : List Link
  pub at : AreAt graph.links way.links (above ++ last ∷ [])
  pub is : IsWay graph.links h ((above ++ last ∷ []) ++ below) 0
  pub under : IsWay graph.links way.below below 0
  pub above_extras : AreExtras (way_trees above)
  pub last_fills : is_extra_node last.tree ≡ false
  pub below_extras : AreExtras (way_trees below)
  pub node_is : node
      ≡ accepted last.tree (reverse (way_trees below)) (reverse (way_trees above)) (suc size)
  pub form : IsInForm g node
