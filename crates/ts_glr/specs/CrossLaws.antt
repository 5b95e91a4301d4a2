-- The laws of graphs that were followed, on which the proofs here rest. It serves private clauses
-- and proofs alone.
use Rattle.std.specs.Prelude.{◌≡◌, ℕ, ◌<◌, ◌≤◌, ◌⊎◌, suc, List, [], length, Option, Some, None}
use Rattle.ts_base.specs.Bytes.{Bytes}
use Rattle.spec_trees.specs.declared.tree.Tree.{Tree}
use Rattle.spec_trees.specs.Trees.{children_of, state_of, bare}
use Rattle.spec_runs.specs.BareTrees.{KeepsAll}
use Rattle.spec_runs.specs.Outcomes.{SomeIsTooDeep, IsBestTree, IsLastStop}
use Rattle.spec_forced.specs.Sound.{States, IsSound}
use Rattle.spec_packing.specs.Packing.{PackedStack}
use Rattle.spec_graph.specs.States.{AreRanks}
use Rattle.spec_graph.specs.Laying.{IsBegun, IsMet}
use Rattle.spec_graph.specs.Links.{IsWholeTo}
use Rattle.spec_crossing.specs.Leaving.{StandsAlone}
use Rattle.spec_crossing.specs.Resting.{IsPastStuck, PackedRests, AccountsForGraph}
use Rattle.ts_table.specs.declared.view.ParseTable.{ParseTable}
use Rattle.ts_table.specs.Tables.{IsTable}
use Rattle.ts_table.specs.Ranks.{unit_rank}
use Rattle.ts_gss.specs.declared.layer.Layer.{Layer}
use Rattle.ts_graph.specs.declared.view.GraphView.{GraphView}
use Rattle.ts_reductions.specs.SoundLinks.{bare_links}
use Rattle.ts_reductions.specs.Sound.{Base, parsing_from, parsing_of, IsSoundBy}
use Rattle.ts_reductions.specs.Keeping.{AreOwn, StandOnGraph}
use Rattle.ts_steps.specs.declared.head.StackHead.{StackHead}
use Rattle.ts_steps.specs.Good.{EachTree}
use Rattle.ts_steps.specs.LiveHeads.{packed_of}
use Rattle.ts_steps.specs.Heads.{AreStatesOf, IsOwnWithin, IsOwnHead, StandOnHead}
use Rattle.ts_places.specs.Sweeping.{IsTooDeep}
use Rattle.ts_places.specs.Following.{IsWholeAt}
use Rattle.ts_places.specs.declared.ends.Ends.{Ends}
use Rattle.ts_places.specs.Ends.{Accepts, AreEnds}
use Rattle.ts_places.specs.Best.{IsRootOn, IsBestOn}
use Rattle.ts_crossing.specs.Leaving.{IsStack, IsLeft}

-- For proofs alone: laws of a stack that is left in a graph.
pub record LeftLaws : Type 0 where
  pub keeps : (t : Tree) → KeepsAll t
  pub rests : (t : ParseTable) (text : Bytes) (base : Base) (g : GraphView) (h : ℕ)
      (numbers : List ℕ) (foot : ℕ) (stacks : List (List Layer)) (k : StackHead)
      → IsSoundBy t text base g → h < length g.heads
      → (s : IsStack g h numbers foot) → IsLeft g h s.way stacks k
      → (start : PackedStack) → IsBegun (parsing_from t text base) start
      → (most : ℕ) → AreRanks t.grammar (unit_rank t.grammar) most
      → (n : ℕ) → IsWholeTo (parsing_from t text base) (unit_rank t.grammar) g.heads
      (bare_links g.links) (record { look = n; begins = n; rank = most })
      → start.place < n → StandsAlone g.heads n h → (before stuck : Option ℕ)
      → AccountsForGraph (parsing_from t text base) g.heads (bare_links g.links) n None before
      stuck
      → PackedRests t.grammar text before start
      → PackedRests t.grammar text stuck (packed_of stacks k)
  pub own : (t : ParseTable) (text : Bytes) (base : Base) (g : GraphView) (h : ℕ)
      (numbers : List ℕ) (foot : ℕ) (stacks : List (List Layer)) (k : StackHead)
      → IsSoundBy t text base g → h < length g.heads
      → (s : IsStack g h numbers foot) → IsLeft g h s.way stacks k
      → AreOwn t.grammar g → IsOwnHead t (length text) stacks k
  pub stand : (t : ParseTable) (text : Bytes) (base : Base) (g : GraphView) (h : ℕ)
      (numbers : List ℕ) (foot : ℕ) (stacks : List (List Layer)) (k : StackHead)
      → IsSoundBy t text base g → h < length g.heads
      → (s : IsStack g h numbers foot) → IsLeft g h s.way stacks k → IsTable t
      → (states : States) → AreStatesOf t states
      → StandOnGraph t.grammar states text base g → StandOnHead t states text stacks k

-- For proofs alone: laws of what ended in a graph, of its best root, and of a node that would be
-- too deep. Something ends in it.
pub record OverLaws : Type 0 where
  pub counted : (t : ParseTable) (text : Bytes) (base : Base) (g : GraphView) (to : ℕ)
      (ends : Ends) (best : Option Tree) (before after : Option ℕ)
      → AreEnds t text g base.place to ends → IsBestOn t text g ends.accepting.items best
      → ((q : ℕ) → IsPastStuck before q → IsPastStuck after q)
      → ((q : ℕ) → IsPastStuck ends.stuck q → IsPastStuck after q)
      → ((q : ℕ) → after ≡ Some q → (before ≡ Some q) ⊎ (ends.stuck ≡ Some q))
      → AccountsForGraph (parsing_from t text base) g.heads (bare_links g.links) to best
      before after
  pub nothing : (t : ParseTable) (text : Bytes) (g : GraphView) (heads : List ℕ)
      → heads ≡ [] → IsBestOn t text g heads None
  pub deep : (t : ParseTable) (text : Bytes) (base : Base) (g : GraphView)
      → IsTooDeep t text base g → IsMet (parsing_from t text base)
      → SomeIsTooDeep t.grammar text
  pub tree : (t : ParseTable) (text : Bytes) (base : Base) (most : ℕ) (g : GraphView)
      (start : PackedStack) → IsWholeAt t text base most g (suc (length text))
      → base.place ≤ length text → IsBegun (parsing_from t text base) start
      → start.place ≤ length text
      → (best : Option Tree) (before stuck : Option ℕ)
      → AccountsForGraph (parsing_from t text base) g.heads (bare_links g.links)
      (suc (length text)) best before stuck
      → PackedRests t.grammar text before start
      → (b : Tree) → best ≡ Some b → IsBestTree t.grammar text (bare b)
  pub stop : (t : ParseTable) (text : Bytes) (base : Base) (most : ℕ) (g : GraphView)
      (start : PackedStack) → IsWholeAt t text base most g (suc (length text))
      → base.place ≤ length text → IsBegun (parsing_from t text base) start
      → start.place ≤ length text
      → (best : Option Tree) (before stuck : Option ℕ)
      → AccountsForGraph (parsing_from t text base) g.heads (bare_links g.links)
      (suc (length text)) best before stuck
      → PackedRests t.grammar text before start
      → (q : ℕ) → best ≡ None → stuck ≡ Some q → IsLastStop t.grammar text q
  pub some : (t : ParseTable) (text : Bytes) (base : Base) (most : ℕ) (g : GraphView)
      → IsWholeAt t text base most g (suc (length text)) → base.place ≤ length text
      → (best : Option Tree) (before stuck : Option ℕ)
      → AccountsForGraph (parsing_from t text base) g.heads (bare_links g.links)
      (suc (length text)) best before stuck
      → best ≡ None → stuck ≡ None → ⊥
  pub root_own : (t : ParseTable) (text : Bytes) (base : Base) (g : GraphView) (h : ℕ) (b : Tree)
      → IsSoundBy t text base g → Accepts (parsing_of t text) g.heads h
      → IsRootOn g (length text) h b → AreOwn t.grammar g
      → EachTree (IsOwnWithin t.grammar) (children_of b) × (state_of b ≡ None)
  pub root_sound : (t : ParseTable) (text : Bytes) (base : Base) (g : GraphView) (h : ℕ) (b : Tree)
      → IsSoundBy t text base g → Accepts (parsing_of t text) g.heads h
      → IsRootOn g (length text) h b → IsTable t → (states : States) → AreStatesOf t states
      → AreOwn t.grammar g → StandOnGraph t.grammar states text base g
      → IsSound t.grammar states text b
