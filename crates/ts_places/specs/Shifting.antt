-- What is shifted and passed at a place of a graph.
use Rattle.std.specs.Prelude.{◌≡◌, ℕ, ◌+◌, ◌<◌, ◌≤◌, ◌⊎◌, suc, List, [], ◌∷◌, length, slice_get, Some}
use Rattle.std.specs.List.{Contains}
use Rattle.ts_base.specs.Bytes.{Bytes}
use Rattle.ts_core.specs.declared.action.Action.{Action}
use Rattle.ts_core.specs.declared.action.Action.TheVariants.{Shift as ToShift}
use Rattle.ts_core.specs.declared.symbol.Symbol.{Symbol}
use Rattle.spec_lexing.specs.Lexing.{token}
use Rattle.spec_tables.specs.Actions.{Act, shift}
use Rattle.spec_runs.specs.Configurations.{token_tree}
use Rattle.spec_graph.specs.declared.graph.Head.{Head}
use Rattle.spec_graph.specs.declared.graph.Link.{Link}
use Rattle.spec_graph.specs.Laying.{Parsing, SeesAt, PassesAt, extra_tree}
use Rattle.spec_graph.specs.Keys.{Key}
use Rattle.spec_graph.specs.Links.{IsAt, HasLink, HasGrown, AreAdded, IsOpened}
use Rattle.ts_graph.specs.declared.view.GraphView.{GraphView}
use Rattle.ts_table.specs.declared.view.ParseTable.{ParseTable}
use Rattle.ts_table.specs.Tables.{IsTable, actions_of}
use Rattle.ts_table.specs.Ranks.{unit_rank}
use Rattle.ts_reductions.specs.SoundLinks.{bare_links}
use Rattle.ts_reductions.specs.Laying.{Grows}
use Rattle.ts_reductions.specs.declared.top.Top.{Top}
use Rattle.ts_reductions.specs.Sound.{Base, parsing_from, IsSoundBy}
use Rattle.ts_reductions.specs.Keeping.{KeepsTrees}
use Rattle.ts_places.specs.declared.sights.Span.{Span}
use Rattle.ts_places.specs.declared.sights.Sights.{Sights}
use Rattle.ts_places.specs.declared.shifting.Onward.{Onward}
use Rattle.ts_places.specs.declared.shifting.Onward.TheVariants.{Shift, Pass, Stay}
use Rattle.ts_places.specs.Looking.{HasAllAt, IsTopWith, AreSights}

-- ---- what actions ask for

-- what the actions ask for beside reductions: a shift that is one of them, to pass an extra where
-- there are none, and nothing where none of them is a shift
abbrev pub IsOnward : List Action → Onward → Type 0
IsOnward actions (Shift state) = Contains actions (ToShift state)
IsOnward actions Pass = actions ≡ []
IsOnward actions Stay = (0 < length actions) × ((state : ℕ) → Contains actions (ToShift state) → ⊥)

-- ---- what is known before

-- a graph that is sound over a stack, which ends at the place or before it, and a head that sees a
-- token there
pub record CanOpen (t : ParseTable) (text : Bytes) (base : Base) (g : GraphView) (look : ℕ)
    (top : Top) (span : Span) : Type 0 where
  pub table : IsTable t
  pub sound : IsSoundBy t text base g
  pub late : base.place ≤ look
  pub sight : IsTopWith t text g look top span

-- the actions of the head on its token
abbrev pub HasActions : ParseTable → GraphView → Top → List Action → Type 0
HasActions t g top actions =
    (head : Head) × (slice_get g.heads top.head ≡ Some head)
    × (actions_of t head.state top.token.0 ≡ actions)

-- and the token is shifted there, up to a state
pub record CanShift (t : ParseTable) (text : Bytes) (base : Base) (g : GraphView) (look : ℕ)
    (top : Top) (span : Span) (state : ℕ) : Type 0 where
  pub can : CanOpen t text base g look top span
  pub actions : List Action
  pub have : HasActions t g top actions
  pub shifts : Contains actions (ToShift state)

-- and the token has no action there, in the state of the head
pub record CanPass (t : ParseTable) (text : Bytes) (base : Base) (g : GraphView) (look : ℕ)
    (top : Top) (span : Span) (state : ℕ) : Type 0 where
  pub can : CanOpen t text base g look top span
  pub head : Head
  pub at : slice_get g.heads top.head ≡ Some head
  pub state_is : head.state ≡ state
  pub none : actions_of t state top.token.0 ≡ []

-- all that is seen at the heads of a place in a graph that is sound over a stack, which ends there or
-- before
pub record AreAllSights (t : ParseTable) (text : Bytes) (base : Base) (g : GraphView) (look : ℕ)
    (s : Sights) : Type 0 where
  pub sound : IsSoundBy t text base g
  pub late : base.place ≤ look
  pub heads : List ℕ
  pub sights : AreSights t text g look heads s
  pub all : HasAllAt g look heads

-- ---- what is done

-- What is seen at one head of a place was done: a token that is shifted there, and an extra that is
-- passed, have a link.
pub record OpensHead (P : Parsing) (heads : List Head) (links : List Link) (look b : ℕ)
    : Type 0 where
  pub shifts : (read : List ℕ) (symbol : Symbol) (pad size : ℕ)
      → IsAt P heads b read look → SeesAt P read look (token symbol pad size)
      → Act P.grammar read symbol.0 shift
      → HasLink P heads links b (token_tree symbol pad size) (look + (pad + size))
      (symbol.0 ∷ read)
  pub passes : (read : List ℕ) (symbol : Symbol) (pad size : ℕ)
      → IsAt P heads b read look → PassesAt P read look symbol pad size
      → HasLink P heads links b (extra_tree symbol pad size) (look + (pad + size)) read

-- each head was there, or stands behind the place
abbrev pub AreBehind : GraphView → GraphView → ℕ → Type 0
AreBehind old new look = (h : ℕ) (head : Head) → slice_get new.heads h ≡ Some head
    → (slice_get old.heads h ≡ Some head) ⊎ (look < head.place)

-- What is seen at one head was done. The graph is sound still, and has grown by heads behind the
-- place, and by trees such as a parser makes.
pub record IsHeadOpened (t : ParseTable) (text : Bytes) (base : Base) (old new : GraphView)
    (look b : ℕ) : Type 0 where
  pub sound : IsSoundBy t text base new
  pub grows : Grows old new
  pub keeps : KeepsTrees t.grammar text base old new
  pub behind : AreBehind old new look
  pub opens : OpensHead (parsing_from t text base) new.heads (bare_links new.links) look b

-- The same of all heads of the place. Nothing is laid on new heads before a key whose token stands
-- no later than right behind the place.
pub record AreShifted (t : ParseTable) (text : Bytes) (base : Base) (old new : GraphView)
    (look : ℕ) : Type 0 where
  pub sound : IsSoundBy t text base new
  pub grows : Grows old new
  pub keeps : KeepsTrees t.grammar text base old new
  pub grown : HasGrown (parsing_from t text base) old.heads (bare_links old.links)
      new.heads (bare_links new.links)
  pub behind : AreBehind old new look
  pub opened : IsOpened (parsing_from t text base) new.heads (bare_links new.links) look
  pub added : (m : Key) → m.look ≤ suc look → AreAdded (parsing_from t text base)
      (unit_rank t.grammar) old.heads new.heads (bare_links new.links) m

-- ---- some of them

-- the same of the first so many
pub record AreShiftedUpTo (t : ParseTable) (text : Bytes) (base : Base) (old new : GraphView)
    (look : ℕ) (tops : List Top) (count : ℕ) : Type 0 where
  pub sound : IsSoundBy t text base new
  pub grows : Grows old new
  pub keeps : KeepsTrees t.grammar text base old new
  pub behind : AreBehind old new look
  pub opens : (k : ℕ) (top : Top) → k < count → slice_get tops k ≡ Some top
      → OpensHead (parsing_from t text base) new.heads (bare_links new.links) look top.head
