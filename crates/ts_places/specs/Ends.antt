-- What ended on a graph of stacks.
use Rattle.std.specs.Prelude.{◌≡◌, ℕ, ◌<◌, ◌≤◌, ◌⊎◌, List, slice_get, Some}
use Rattle.std.specs.List.{Contains}
use Rattle.ts_base.specs.Bytes.{Bytes}
use Rattle.ts_core.specs.declared.symbol.Symbol.{Symbol}
use Rattle.spec_lexing.specs.Lexing.{token}
use Rattle.spec_tables.specs.Actions.{Act, accept}
use Rattle.spec_graph.specs.declared.graph.Head.{Head}
use Rattle.spec_graph.specs.Laying.{Parsing, SeesAt}
use Rattle.spec_graph.specs.Links.{IsAt}
use Rattle.ts_graph.specs.declared.view.GraphView.{GraphView}
use Rattle.ts_table.specs.declared.view.ParseTable.{ParseTable}
use Rattle.ts_reductions.specs.Laying.{HasPassed}
use Rattle.ts_reductions.specs.Sound.{Base, parsing_from, parsing_of}
use Rattle.ts_places.specs.Looking.{StopsThere}
use Rattle.ts_places.specs.declared.ends.Ends.{Ends}
use Rattle.ts_places.specs.Choosing.{IsPastStuck}

-- the head sees a token on which acceptance stays
pub record Accepts (P : Parsing) (heads : List Head) (h : ℕ) : Type 0 where
  pub read : List ℕ
  pub place : ℕ
  pub at : IsAt P heads h read place
  pub symbol : Symbol
  pub pad : ℕ
  pub size : ℕ
  pub sees : SeesAt P read place (token symbol pad size)
  pub stays : Act P.grammar read symbol.0 accept

-- Of the heads that stand at one place or past it, and before another, those that accept, and the
-- greatest place at which one of them stops.
pub record AreEnds (t : ParseTable) (text : Bytes) (g : GraphView) (from to : ℕ) (ends : Ends)
    : Type 0 where
  pub each : (h : ℕ) → Contains ends.accepting.items h
      → (a : Accepts (parsing_of t text) g.heads h) × (from ≤ a.place) × (a.place < to)
  pub all : (h : ℕ) → (a : Accepts (parsing_of t text) g.heads h) → from ≤ a.place
      → a.place < to → Contains ends.accepting.items h
  pub stops : (q : ℕ) → ends.stuck ≡ Some q
      → (h look : ℕ) × StopsThere t text g look h q × (from ≤ look) × (look < to)
  pub last : (h look q : ℕ) → StopsThere t text g look h q → from ≤ look → look < to
      → IsPastStuck ends.stuck q

-- Each head was there, or stands no earlier than the place, or an extra is passed there.
abbrev pub AreLater : ParseTable → Bytes → Base → GraphView → GraphView → ℕ → Type 0
AreLater t text base old new to = (h : ℕ) (head : Head) → slice_get new.heads h ≡ Some head
    → (slice_get old.heads h ≡ Some head)
    ⊎ ((to ≤ head.place) ⊎ HasPassed (parsing_from t text base) new h)
