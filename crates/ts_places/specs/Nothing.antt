-- Reductions over nothing: on which texts one can stay.
use Rattle.std.specs.Prelude.{◌≡◌, ℕ, ◌+◌, ◌<◌, ◌≤◌, List, [], length, Some}
use Rattle.std.specs.List.{Contains}
use Rattle.ts_base.specs.Bytes.{Bytes}
use Rattle.ts_core.specs.declared.action.Action.{Action}
use Rattle.ts_core.specs.declared.action.Action.TheVariants.{Reduce}
use Rattle.ts_core.specs.declared.flat.Production.{Production}
use Rattle.ts_core.specs.declared.symbol.Symbol.{Symbol}
use Rattle.spec_grammar.specs.Symbols.{production_at}
use Rattle.spec_lexing.specs.Lexing.{token, absent}
use Rattle.spec_graph.specs.Laying.{SeesAt, PassesAt}
use Rattle.ts_table.specs.declared.view.ParseTable.{ParseTable}
use Rattle.ts_table.specs.Tables.{actions_of}
use Rattle.ts_lexer.specs.declared.lexed.Lexed.{Lexed}
use Rattle.ts_lexer.specs.declared.lexed.Lexed.TheVariants.{Token, Absent}
use Rattle.ts_reductions.specs.Lines.{HasProduction}
use Rattle.ts_reductions.specs.Sound.{Base, parsing_of}

-- an action that is a reduction is one by a production
abbrev pub HasProductions : ParseTable → Action → Type 0
HasProductions t action =
    (number : ℕ) → action ≡ Reduce number
    → (left : ℕ) × (p : Production) × HasProduction t number left p

-- the action is a reduction by a production of no steps
pub record IsOverNothing (t : ParseTable) (action : Action) : Type 0 where
  pub number : ℕ
  pub is : action ≡ Reduce number
  pub left : ℕ
  pub production : Production
  pub at : production_at t.grammar number ≡ Some (left, production)
  pub none : production.steps ≡ []

-- one of the actions is
abbrev pub SomeIsOverNothing : ParseTable → List Action → Type 0
SomeIsOverNothing t actions = (action : Action) × Contains actions action × IsOverNothing t action

-- From the place on, where nothing was read but extras, there are only extras before a token on
-- which a reduction over nothing stays.
pub data ComesToNothing (t : ParseTable) (text : Bytes) : ℕ → Type 0 where
  nothing_here : (place : ℕ) (symbol : Symbol) (pad size : ℕ)
      → SeesAt (parsing_of t text) [] place (token symbol pad size)
      → SomeIsOverNothing t (actions_of t 0 symbol.0) → ComesToNothing t text place
  nothing_behind : (place : ℕ) (symbol : Symbol) (pad size : ℕ)
      → PassesAt (parsing_of t text) [] place symbol pad size
      → ComesToNothing t text (place + (pad + size)) → ComesToNothing t text place

-- so it is from the start of the text on
abbrev pub IsOfNothing : ParseTable → Bytes → Type 0
IsOfNothing t text = ComesToNothing t text 0

-- Where runs go on from the empty stack, it is not so.
abbrev pub IsOfSome : ParseTable → Bytes → Base → Type 0
IsOfSome t text base = base.layers ≡ [] → IsOfNothing t text → ⊥

-- ---- what is seen on the way

-- the token is seen, where nothing was read but extras; it lies in the text, and has bytes if it is
-- not the end
pub record IsTokenThere (t : ParseTable) (text : Bytes) (place : ℕ) (symbol : Symbol)
    (pad size : ℕ) : Type 0 where
  pub sees : SeesAt (parsing_of t text) [] place (token symbol pad size)
  pub within : place + (pad + size) ≤ length text
  pub some : 0 < symbol.0 → 0 < size

-- what was lexed is what is seen there
abbrev pub SeesAtFirst : ParseTable → Bytes → ℕ → Lexed → Type 0
SeesAtFirst t text place (Token symbol pad size extent) =
    IsTokenThere t text place symbol pad size
SeesAtFirst t text place (Absent stop extent) =
    (far : ℕ) × SeesAt (parsing_of t text) [] place (absent far)
