-- From a plain stack to a graph of stacks.
use Rattle.std.specs.Prelude.{◌≡◌, ℕ, ◌+◌, ◌<◌, ◌≤◌, suc, List, ◌++◌, length, map, reverse, slice_get, Some}
use Rattle.std.specs.List.{Contains}
use Rattle.ts_base.specs.Bytes.{Bytes}
use Rattle.spec_trees.specs.declared.tree.Tree.{Tree}
use Rattle.spec_trees.specs.Trees.{all_spans, bare}
use Rattle.spec_trees.specs.Made.{EndBy, most_span}
use Rattle.spec_forced.specs.Sound.{States, StandOnStack}
use Rattle.spec_graph.specs.declared.graph.Head.{Head}
use Rattle.spec_graph.specs.declared.graph.Link.{Link}
use Rattle.spec_graph.specs.States.{AreRanks}
use Rattle.spec_packing.specs.Packing.{PackedTree}
use Rattle.spec_graph.specs.Laying.{IsBegun}
use Rattle.spec_graph.specs.Grounded.{AreMadeTrees}
use Rattle.spec_graph.specs.Links.{HasStood, IsWholeTo}
use Rattle.ts_table.specs.declared.view.ParseTable.{ParseTable}
use Rattle.ts_table.specs.Tables.{IsTable}
use Rattle.ts_table.specs.Ranks.{unit_rank}
use Rattle.ts_gss.specs.declared.layer.Layer.{Layer}
use Rattle.ts_gss.specs.Stacks.{stack_at, trees_on, state_on}
use Rattle.ts_gss.specs.Paths.{IsLifted}
use Rattle.ts_graph.specs.declared.view.GraphView.{GraphView}
use Rattle.ts_graph.specs.Under.{HaveBytes}
use Rattle.ts_reductions.specs.SoundLinks.{bare_links, IsSoundFor}
use Rattle.ts_reductions.specs.Laying.{head_at}
use Rattle.ts_reductions.specs.Good.{IsGoodTree}
use Rattle.ts_steps.specs.declared.head.StackHead.{StackHead}
use Rattle.ts_steps.specs.Good.{EachTree, AreGoodTrees}
use Rattle.ts_steps.specs.Heads.{AreStatesOf, IsOwnWithin, StandOnHead}
use Rattle.ts_steps.specs.LiveHeads.{packed_layers, packed_of, HaveStates, HaveDepths, IsLiveHead}
use Rattle.ts_reductions.specs.Sound.{Base, base_at, parsing_from, IsSoundBy}
use Rattle.ts_reductions.specs.Keeping.{AreOwn, StandOnGraph}

-- A live stack. Its trees are such as moves make, and have bytes.
pub record CanEnter (t : ParseTable) (text : Bytes) (stacks : List (List Layer)) (h : StackHead)
    : Type 0 where
  pub table : IsTable t
  pub short : length text ≤ most_span
  pub live : IsLiveHead t (length text) stacks h
  pub made : AreMadeTrees t.grammar (map bare (trees_on (stack_at stacks h.top)))
  pub bytes : HaveBytes (trees_on (stack_at stacks h.top))

-- The graph stands for the stack but for the extras on top of it, which lie above the place: it is
-- sound over what lies below, has all that stood there, and so is whole up to the first key of the
-- place. Its trees are a parser's own and stand, if those of the stack are and do. No head stands
-- past the place, and the head of the stack over which it lies stands there, and no other.
pub record IsEntered (t : ParseTable) (text : Bytes) (stacks : List (List Layer)) (h : StackHead)
    (g : GraphView) (place : ℕ) : Type 0 where
  pub layers : List PackedTree
  pub begun : IsBegun (parsing_from t text (base_at layers place)) (packed_of stacks h)
  pub sound : IsSoundBy t text (base_at layers place) g
  pub stood : HasStood (parsing_from t text (base_at layers place)) g.heads (bare_links g.links)
  pub whole : (most : ℕ) → AreRanks t.grammar (unit_rank t.grammar) most
      → IsWholeTo (parsing_from t text (base_at layers place)) (unit_rank t.grammar) g.heads
      (bare_links g.links) (record { look = place; begins = place; rank = most })
  pub own : EachTree (IsOwnWithin t.grammar) (trees_on (stack_at stacks h.top)) → AreOwn t.grammar g
  pub stand : (states : States) → AreStatesOf t states → StandOnHead t states text stacks h
      → StandOnGraph t.grammar states text (base_at layers place) g
  pub low : (k : ℕ) (head : Head) → slice_get g.heads k ≡ Some head → head.place ≤ place
  pub base_is : (state : ℕ) × (slice_get g.heads g.base ≡ Some (head_at state place))
  pub alone : (k : ℕ) (head : Head) → slice_get g.heads k ≡ Some head → head.place ≡ place
      → k ≡ g.base

-- ---- under way. It serves private clauses and proofs alone.

-- the stack under the extras on top, and the place where it ends
pub record IsUnder (stacks : List (List Layer)) (h under : StackHead) : Type 0 where
  pub extras : List Tree
  pub lifted : IsLifted (stack_at stacks h.top) extras (stack_at stacks under.top)
  pub there : under.top < length stacks
  pub place : under.place + all_spans extras ≡ h.place

-- What is known of a stack whose layers are laid one after another: they are the lowest of those
-- from which runs go on.
pub record Stands (t : ParseTable) (text : Bytes) (base : Base) (layers : List Layer)
    : Type 0 where
  pub table : IsTable t
  pub states : HaveStates t layers
  pub depths : HaveDepths layers
  pub good : AreGoodTrees t.grammar (trees_on layers)
  pub bytes : HaveBytes (trees_on layers)
  pub reach : EndBy (suc (length text)) 0 (reverse (trees_on layers))
  pub within : all_spans (trees_on layers) ≤ length text
  pub low : (above : List PackedTree) × (base.layers ≡ above ++ packed_layers layers)

-- The graph has a head for the stack and for each below it, with a link for each tree.
pub record LaidTo (t : ParseTable) (text : Bytes) (base : Base) (layers : List Layer)
    (g : GraphView) (top : ℕ) : Type 0 where
  pub sound : IsSoundFor (parsing_from t text base) g
  pub good : (l : Link) → Contains g.links l → IsGoodTree t.grammar l.tree
  pub at : slice_get g.heads top ≡ Some (head_at (state_on layers) (all_spans (trees_on layers)))
  pub stood : HasStood (parsing_from t text (base_at (packed_layers layers)
      (all_spans (trees_on layers)))) g.heads (bare_links g.links)
  pub own : EachTree (IsOwnWithin t.grammar) (trees_on layers) → AreOwn t.grammar g
  pub stand : (states : States) → AreStatesOf t states
      → StandOnStack t.grammar states text (trees_on layers)
      → StandOnGraph t.grammar states text (base_at (packed_layers layers)
      (all_spans (trees_on layers))) g
  pub low : (k : ℕ) (head : Head) → slice_get g.heads k ≡ Some head
      → head.place ≤ all_spans (trees_on layers)
  pub alone : (k : ℕ) (head : Head) → slice_get g.heads k ≡ Some head
      → head.place ≡ all_spans (trees_on layers) → k ≡ top
