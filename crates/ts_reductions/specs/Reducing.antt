-- What the reductions of one key come to.
use Rattle.std.specs.Prelude.{◌≡◌, ℕ, ◌<◌, ◌⊎◌, List, slice_get, Some}
use Rattle.ts_base.specs.Bytes.{Bytes}
use Rattle.ts_core.specs.declared.flat.Production.{Production}
use Rattle.spec_trees.specs.Made.{most_depth}
use Rattle.spec_graph.specs.declared.graph.Head.{Head}
use Rattle.spec_graph.specs.declared.graph.Link.{Link}
use Rattle.spec_graph.specs.Keys.{Key}
use Rattle.spec_graph.specs.Links.{IsDue, way_depth, AreDone, HasGrown, AreAdded}
use Rattle.ts_graph.specs.declared.view.GraphView.{GraphView}
use Rattle.ts_table.specs.declared.view.ParseTable.{ParseTable}
use Rattle.ts_table.specs.Ranks.{unit_rank}
use Rattle.ts_reductions.specs.declared.reducing.Reduced.{Reduced}
use Rattle.ts_reductions.specs.declared.reducing.Reduced.TheVariants.{Done, TooDeep}
use Rattle.ts_reductions.specs.SoundLinks.{bare_links}
use Rattle.ts_reductions.specs.Sound.{Base, parsing_from, IsSoundBy}
use Rattle.ts_reductions.specs.Keeping.{KeepsTrees}
use Rattle.ts_reductions.specs.Laying.{Grows, IsNewHead}

-- Some reduction of the key in the graph would make a node that is too deep.
pub record IsDeepAt (t : ParseTable) (text : Bytes) (base : Base) (g : GraphView) (k : Key)
    : Type 0 where
  pub number : ℕ
  pub left : ℕ
  pub production : Production
  pub top : ℕ
  pub middle : ℕ
  pub bottom : ℕ
  pub outer : List Link
  pub inner : List Link
  pub over : List ℕ
  pub now : List ℕ
  pub end : ℕ
  pub due : IsDue (parsing_from t text base) (unit_rank t.grammar) g.heads (bare_links g.links)
      k number left production top middle bottom outer inner over now end
  pub deep : most_depth < way_depth (parsing_from t text base) number left inner

-- All reductions of the key that the graph had were done, none of which was too deep. The graph is
-- sound still, and has grown by trees such as it had and nodes made of them; each new head stands at
-- the key's place, or an extra is passed there; and all that is laid on new heads before a key at the
-- same place has a link.
pub record AreReduced (t : ParseTable) (text : Bytes) (base : Base) (old new : GraphView)
    (k : Key) : Type 0 where
  pub sound : IsSoundBy t text base new
  pub grows : Grows old new
  pub keeps : KeepsTrees t.grammar text base old new
  pub done : AreDone (parsing_from t text base) (unit_rank t.grammar) old.heads
      (bare_links old.links) new.heads (bare_links new.links) k
  pub grown : HasGrown (parsing_from t text base) old.heads (bare_links old.links)
      new.heads (bare_links new.links)
  pub only : (h : ℕ) (head : Head) → slice_get new.heads h ≡ Some head
      → (slice_get old.heads h ≡ Some head)
      ⊎ IsNewHead (parsing_from t text base) new k.look h head
  pub added : (m : Key) → m.look ≡ k.look → AreAdded (parsing_from t text base)
      (unit_rank t.grammar) old.heads new.heads (bare_links new.links) m

-- What is said of the key. Where a node would be too deep, the graph stays as it was.
abbrev pub Reduces : ParseTable → Bytes → Base → GraphView → GraphView → Key → Reduced → Type 0
Reduces t text base old new k Done = AreReduced t text base old new k
Reduces t text base old new k TooDeep = IsDeepAt t text base old k × (new ≡ old)
