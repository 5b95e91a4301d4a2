-- The rows of a table, and how they are held.
use Rattle.std.specs.Prelude.{ℕ, List, [], map, slice_get, Option, Some, None, option_map, unwrap_or, nat_eq, if◌then◌else◌}
use Rattle.std.specs.Global.{Vec}
use Rattle.ts_core.specs.declared.action.Action.{Action}
use Rattle.ts_table.specs.declared.arrays.Arrays.{Arrays}
use Rattle.ts_table.specs.declared.arrays.RowPlaces.{RowPlaces}
use Rattle.ts_table.specs.declared.view.StateRow.{StateRow}
use Rattle.ts_table.specs.declared.view.ParseTable.{ParseTable}
use Rattle.ts_core.specs.declared.flat.FlatGrammar.{FlatGrammar}

-- the items of the list at a place, and none where there is no such place
abbrev pub items_at : {X : Type 0} → List (Vec X) → ℕ → List X
items_at lists k = unwrap_or (option_map (λ list. list.items) (slice_get lists k)) []

-- what stands for no state
abbrev pub no_state : ℕ
no_state = 65535

-- the state for which a number stands
abbrev pub state_in : ℕ → Option ℕ
state_in number = if nat_eq number no_state then None else Some number

-- the row of a state, by its places
abbrev pub placed_row : Arrays → RowPlaces → StateRow
placed_row a places = record {
  gotos = map state_in (items_at a.gotos.keys places.gotos);
  actions = map (items_at a.lists.keys) (items_at a.actions.keys places.actions);
}

-- the row of each state
abbrev pub table_rows : Arrays → List StateRow
table_rows a = map (placed_row a) a.states.items

-- the table of a grammar with these rows
abbrev pub table_of : FlatGrammar → Arrays → ParseTable
table_of g a = record { grammar = g; rows = table_rows a }

-- where a state leads over a symbol, by the arrays
abbrev pub goto_by : Arrays → ℕ → ℕ → Option ℕ
goto_by a state symbol =
    unwrap_or (option_map (λ places. unwrap_or (option_map state_in
    (slice_get (items_at a.gotos.keys places.gotos) symbol)) None) (slice_get a.states.items state))
    None

-- the actions of a state on a token, by the arrays
abbrev pub actions_by : Arrays → ℕ → ℕ → List Action
actions_by a state token =
    unwrap_or (option_map (λ places. unwrap_or (option_map (items_at a.lists.keys)
    (slice_get (items_at a.actions.keys places.actions) token)) [])
    (slice_get a.states.items state))
    []
