-- Tokens that are seen again behind a reduction.
use Rattle.std.specs.Prelude.{◌≡◌, ℕ, List, slice_get, Some}
use Rattle.std.specs.List.{Contains}
use Rattle.ts_base.specs.Bytes.{Bytes}
use Rattle.ts_core.specs.declared.symbol.Symbol.{Symbol}
use Rattle.spec_lexing.specs.Lexing.{token}
use Rattle.spec_runs.specs.Configurations.{HasMove}
use Rattle.spec_graph.specs.declared.graph.Head.{Head}
use Rattle.spec_graph.specs.States.{LeadsTo}
use Rattle.spec_graph.specs.Laying.{SeesAt}
use Rattle.ts_graph.specs.declared.view.GraphView.{GraphView}
use Rattle.ts_table.specs.declared.view.ParseTable.{ParseTable}
use Rattle.ts_table.specs.Tables.{goto_of}
use Rattle.ts_reductions.specs.declared.made.Made.{Made}
use Rattle.ts_reductions.specs.declared.reducing.Reduced.{Reduced}
use Rattle.ts_reductions.specs.declared.reducing.Reduced.TheVariants.{Done, TooDeep}
use Rattle.ts_reductions.specs.declared.room.Room.{Room}
use Rattle.ts_reductions.specs.declared.top.Top.{Top}
use Rattle.ts_reductions.specs.Sound.{parsing_of}

-- The token is seen in the second state wherever it is seen in the first, if some move stays on it
-- in the second.
abbrev pub SeesAgain : ParseTable → Bytes → Symbol → ℕ → ℕ → Type 0
SeesAgain t text symbol from to =
    (read now : List ℕ) (place pad size : ℕ)
    → LeadsTo (goto_of t) read from → LeadsTo (goto_of t) now to
    → HasMove t.grammar now symbol.0
    → SeesAt (parsing_of t text) read place (token symbol pad size)
    → SeesAt (parsing_of t text) now place (token symbol pad size)

-- one of the reductions that were done last stayed on the token of the top, and led to the state
pub record HasLed (room : Room) (state : ℕ) (top : Top) : Type 0 where
  pub made : Made
  pub there : Contains room.mades.items made
  pub state_is : made.piece.state ≡ state
  pub top_is : made.top ≡ top

-- no reduction was done last
abbrev pub LedNone : Room → Type 0
LedNone room = (state : ℕ) (top : Top) → HasLed room state top → ⊥

-- each stayed on the token of one of these tops, which is seen again in the state to which it led
abbrev pub AreLed : ParseTable → Bytes → GraphView → List Top → Room → Type 0
AreLed t text g tops room = (state : ℕ) (top : Top) → HasLed room state top
    → Contains tops top
    × ((head : Head) → slice_get g.heads top.head ≡ Some head
    → SeesAgain t text top.token head.state state)

-- the same where all reductions were done
abbrev pub Leads : ParseTable → Bytes → GraphView → List Top → Room → Reduced → Type 0
Leads t text g tops room Done = AreLed t text g tops room
Leads t text g tops room TooDeep = Unit {0}
