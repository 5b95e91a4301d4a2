-- What is done at a place of a graph, and where the graph goes on.
use Rattle.std.specs.Prelude.{◌≡◌, ℕ, suc, ◌<◌, ◌≤◌, ◌⊎◌, Option, Some, None, length, slice_get}
use Rattle.ts_base.specs.Bytes.{Bytes}
use Rattle.spec_graph.specs.declared.graph.Head.{Head}
use Rattle.spec_graph.specs.States.{AreRanks}
use Rattle.ts_graph.specs.declared.view.GraphView.{GraphView}
use Rattle.ts_table.specs.declared.view.ParseTable.{ParseTable}
use Rattle.ts_table.specs.Ranks.{unit_rank}
use Rattle.ts_reductions.specs.Laying.{Grows, HasPassed}
use Rattle.ts_reductions.specs.declared.reducing.Reduced.{Reduced}
use Rattle.ts_reductions.specs.declared.reducing.Reduced.TheVariants as reduced
use Rattle.ts_reductions.specs.declared.setting.Setting.{Setting}
use Rattle.ts_reductions.specs.Keeping.{KeepsTrees}
use Rattle.ts_reductions.specs.Lines.{IsSetting}
use Rattle.ts_reductions.specs.Sound.{Base, parsing_from, IsSoundBy}
use Rattle.ts_places.specs.declared.sights.Sights.{Sights}
use Rattle.ts_places.specs.Passing.{first_key}
use Rattle.ts_places.specs.Shifting.{AreAllSights}
use Rattle.ts_places.specs.Sweeping.{IsWholeBy, IsTooDeep}
use Rattle.ts_places.specs.declared.following.Next.{Next}
use Rattle.ts_places.specs.declared.following.Next.TheVariants.{Place, Nowhere, TooDeep}
use Rattle.ts_places.specs.declared.frontier.Frontier.{Frontier}
use Rattle.ts_places.specs.Frontiers.{AreOpen, IsNextPlace, IsLastPlace}
use Rattle.ts_places.specs.Nothing.{IsOfSome}

-- ---- before

-- A graph that is sound over a stack, and whole up to the first key of a place, of all that runs lay
-- which go on from that stack. It ends no later.
pub record IsWholeAt (t : ParseTable) (text : Bytes) (base : Base) (most : ℕ) (g : GraphView)
    (place : ℕ) : Type 0 where
  pub early : base.place ≤ place
  pub ranks : AreRanks t.grammar (unit_rank t.grammar) most
  pub sound : IsSoundBy t text base g
  pub whole : IsWholeBy t text base g (first_key most place)

-- And the setting of its table, and the heads that stand at the place or past it. If the stack is
-- empty, the text is not of nothing.
pub record CanFollow (t : ParseTable) (text : Bytes) (s : Setting) (base : Base) (most : ℕ)
    (g : GraphView) (place : ℕ) (frontier : Frontier) : Type 0 where
  pub setting : IsSetting t (length text) s
  pub whole : IsWholeAt t text base most g place
  pub are_open : AreOpen g place frontier.heads.items
  pub some : IsOfSome t text base

-- ---- after

-- All that is asked for at the place was done, and the new trees are such as a parser makes. Each
-- new head stands at the place or past it, or an extra is passed there. These are all sights at
-- the place.
pub record IsFollowed (t : ParseTable) (text : Bytes) (base : Base) (old new : GraphView)
    (place : ℕ) (sights : Sights) : Type 0 where
  pub grows : Grows old new
  pub only : (h : ℕ) (head : Head) → slice_get new.heads h ≡ Some head
      → (slice_get old.heads h ≡ Some head)
      ⊎ ((place ≤ head.place) ⊎ HasPassed (parsing_from t text base) new h)
  pub keeps : KeepsTrees t.grammar text base old new
  pub seen : AreAllSights t text base new place sights

-- and the graph goes on at the next place
pub record GoesOnAt (t : ParseTable) (text : Bytes) (base : Base) (most : ℕ) (old new : GraphView)
    (place : ℕ) (frontier : Frontier) (sights : Sights) (next : ℕ) : Type 0 where
  pub followed : IsFollowed t text base old new place sights
  pub at : IsNextPlace new place frontier.heads.items next
  pub whole : IsWholeAt t text base most new next

-- and it goes on nowhere
pub record IsOver (t : ParseTable) (text : Bytes) (base : Base) (most : ℕ) (old new : GraphView)
    (place : ℕ) (sights : Sights) : Type 0 where
  pub followed : IsFollowed t text base old new place sights
  pub last : IsLastPlace new place
  pub whole : (n : ℕ) → place < n → IsWholeAt t text base most new n

-- where the graph goes on, by the next place
abbrev pub next_at : Option ℕ → Next
next_at None = Nowhere
next_at (Some next) = Place next

-- what is said of the place, by the answer
abbrev pub Follows : ParseTable → Bytes → Base → ℕ → GraphView → GraphView → ℕ → Frontier → Frontier
    → Sights → Next → Type 0
Follows t text base most old new place before after sights (Place next) =
    GoesOnAt t text base most old new place after sights next
Follows t text base most old new place before after sights Nowhere =
    IsOver t text base most old new place sights
Follows t text base most old new place before after sights TooDeep = IsTooDeep t text base new

-- ---- between

-- the graph, and all that is seen at its heads there
pub record CanPass (t : ParseTable) (text : Bytes) (s : Setting) (base : Base) (most : ℕ)
    (g : GraphView) (place : ℕ) (sights : Sights) : Type 0 where
  pub setting : IsSetting t (length text) s
  pub whole : IsWholeAt t text base most g place
  pub seen : AreAllSights t text base g place sights
  pub some : IsOfSome t text base

-- all that is asked for was done
pub record IsPassed (t : ParseTable) (text : Bytes) (base : Base) (most : ℕ) (old new : GraphView)
    (place : ℕ) (sights : Sights) : Type 0 where
  pub followed : IsFollowed t text base old new place sights
  pub whole : IsWholeAt t text base most new (suc place)

-- what is said of the place, by the answer
abbrev pub Passes : ParseTable → Bytes → Base → ℕ → GraphView → GraphView → ℕ → Sights → Reduced
    → Type 0
Passes t text base most old new place sights reduced.Done =
    IsPassed t text base most old new place sights
Passes t text base most old new place sights reduced.TooDeep = IsTooDeep t text base new
