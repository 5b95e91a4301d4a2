-- The laws that the proofs of one place and the next rest on.
use Rattle.std.specs.Prelude.{◌≡◌, ℕ, suc, ◌+◌, ◌<◌, ◌≤◌, List}
use Rattle.ts_base.specs.Bytes.{Bytes}
use Rattle.ts_core.specs.declared.flat.FlatGrammar.{FlatGrammar}
use Rattle.spec_tables.specs.Actions.{Act, reduce}
use Rattle.spec_trees.specs.declared.tree.Tree.{Tree}
use Rattle.spec_runs.specs.Moves.{EndsWithProduction}
use Rattle.spec_graph.specs.States.{AreRanks}
use Rattle.spec_graph.specs.Replacing.{Replaces}
use Rattle.spec_graph.specs.Keys.{Key, IsNextKey}
use Rattle.spec_graph.specs.Links.{IsWholeTo}
use Rattle.ts_graph.specs.declared.view.GraphView.{GraphView}
use Rattle.ts_graph.specs.Down.{KeepNumbers}
use Rattle.ts_table.specs.declared.view.ParseTable.{ParseTable}
use Rattle.ts_table.specs.Tables.{IsTable}
use Rattle.ts_table.specs.Ranks.{unit_rank}
use Rattle.ts_reductions.specs.SoundLinks.{bare_links}
use Rattle.ts_reductions.specs.Reducing.{AreReduced}
use Rattle.ts_reductions.specs.Sound.{Base, parsing_from, IsSoundBy}
use Rattle.ts_places.specs.declared.sights.Sights.{Sights}
use Rattle.ts_places.specs.Looking.{IsHeadAt, AreSights}
use Rattle.ts_places.specs.Passing.{first_key}
use Rattle.ts_places.specs.Shifting.{AreShifted}

-- For proofs alone: what a reduction that stays takes.
pub record MoveLaws : Type 0 where
  pub reduces : (g : FlatGrammar) (read : List ℕ) (t number : ℕ) → Act g read t (reduce number)
      → EndsWithProduction g read number

-- For proofs alone: laws of one place and the next.
pub record PlaceLaws : Type 0 where
  pub through : (t u v : Tree) → Replaces t u → Replaces u v → Replaces t v
  pub look : (most look : ℕ) → IsNextKey most
      (record { look = look; begins = 0; rank = 0 })
      (record { look = suc look; begins = suc look; rank = most })
  pub stay : (t : ParseTable) (text : Bytes) (old new : GraphView) (look : ℕ) (heads : List ℕ)
      (s : Sights) → KeepNumbers old.heads new.heads → AreSights t text old look heads s
      → AreSights t text new look heads s
  pub follow : (t : ParseTable) (text : Bytes) (base : Base) (most : ℕ) (old mid new : GraphView)
      (k m : Key) → IsTable t → AreRanks t.grammar (unit_rank t.grammar) most
      → IsSoundBy t text base old → base.place ≤ k.look
      → AreReduced t text base old mid k → AreShifted t text base mid new k.look
      → IsNextKey most k m → m.look ≡ suc k.look
      → IsWholeTo (parsing_from t text base) (unit_rank t.grammar) old.heads
      (bare_links old.links) k
      → IsWholeTo (parsing_from t text base) (unit_rank t.grammar) new.heads
      (bare_links new.links) m
  pub empty : (t : ParseTable) (text : Bytes) (base : Base) (most : ℕ) (g : GraphView)
      (count look : ℕ)
      → AreRanks t.grammar (unit_rank t.grammar) most → IsSoundBy t text base g
      → ((place h : ℕ) → look ≤ place → place < count + look → IsHeadAt g place h → ⊥)
      → IsWholeTo (parsing_from t text base) (unit_rank t.grammar) g.heads (bare_links g.links)
      (first_key most look)
      → IsWholeTo (parsing_from t text base) (unit_rank t.grammar) g.heads (bare_links g.links)
      (first_key most (count + look))
