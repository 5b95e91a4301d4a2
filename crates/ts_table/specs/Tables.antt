-- What a table says of a grammar: its states stand for the sets of valid items.
use Rattle.std.specs.Prelude.{◌≡◌, ℕ, ◌<◌, ◌≤◌, List, [], ◌∷◌, length, map, sum, slice_get, Option, Some, None, option_map, unwrap_or, ◌↔◌}
use Rattle.std.specs.List.{Contains}
use Rattle.ts_core.specs.declared.action.Action.{Action}
use Rattle.ts_core.specs.declared.action.Action.TheVariants.{Shift, Reduce, Accept}
use Rattle.ts_core.specs.declared.flat.FlatGrammar.{FlatGrammar}
use Rattle.ts_core.specs.declared.flat.Step.{Step}
use Rattle.spec_tables.specs.Fit.{Fit}
use Rattle.spec_tables.specs.Items.{Item, IsBefore, Valid}
use Rattle.spec_tables.specs.Actions.{Act, shift, reduce, accept}
use Rattle.spec_tables.specs.Conflicts.{AreDeclared}
use Rattle.ts_items.specs.Closing.{SameItems}
use Rattle.ts_items.specs.Collection.{most_states}
use Rattle.ts_table.specs.declared.view.ParseTable.{ParseTable}

-- ---- what a table has

-- the state to which a state leads over a symbol, if it leads anywhere
abbrev pub goto_of : ParseTable → ℕ → ℕ → Option ℕ
goto_of t state symbol =
    unwrap_or (option_map (λ row. unwrap_or (slice_get row.gotos symbol) None)
    (slice_get t.rows state)) None

-- the actions of a state on a token
abbrev pub actions_of : ParseTable → ℕ → ℕ → List Action
actions_of t state token =
    unwrap_or (option_map (λ row. unwrap_or (slice_get row.actions token) [])
    (slice_get t.rows state)) []

-- no list of actions is longer
abbrev pub most_actions : ParseTable → ℕ
most_actions t = sum (map (λ row. sum (map (λ list. length list) row.actions)) t.rows)

-- The state to which a list of symbols leads from state 0, the last symbol first.
pub data IsStateOf (t : ParseTable) : List ℕ → ℕ → Type 0 where
  at_first : IsStateOf t [] 0
  by_goto : (read : List ℕ) (state symbol next : ℕ) → IsStateOf t read state
      → goto_of t state symbol ≡ Some next → IsStateOf t (symbol ∷ read) next

-- ---- what it has to have

-- some item that is valid after these symbols has its dot before the symbol
abbrev pub StandsBefore : FlatGrammar → List ℕ → ℕ → Type 0
StandsBefore g read symbol =
    (i : Item) × (step : Step) × Valid g read i × IsBefore g i step × (step.symbol.0 ≡ symbol)

-- the action does what stays on the token after these symbols, and a shift leads to the state of
-- the symbols with the token
pub data ActsBy (t : ParseTable) (read : List ℕ) (token : ℕ) : Action → Type 0 where
  shifts : (next : ℕ) → Act t.grammar read token shift → IsStateOf t (token ∷ read) next
      → ActsBy t read token (Shift next)
  reduces : (number : ℕ) → Act t.grammar read token (reduce number)
      → ActsBy t read token (Reduce number)
  accepts : Act t.grammar read token accept → ActsBy t read token Accept

-- no two places have the same action
abbrev pub EachOnce : List Action → Type 0
EachOnce actions = (j k : ℕ) (a : Action) → slice_get actions j ≡ Some a
    → slice_get actions k ≡ Some a → j ≡ k

-- The states stand one to one for the sets of valid items that are not empty, the table leads
-- over a symbol where an item stands before it, and has the actions that stay.
pub record IsTable (t : ParseTable) : Type 0 where
  pub fit : Fit t.grammar
  pub some : 0 < length t.rows
  pub few : length t.rows ≤ most_states
  -- each list of symbols leads to at most one state, and to one where some item is valid after it
  pub one : (read : List ℕ) (m n : ℕ) → IsStateOf t read m → IsStateOf t read n → m ≡ n
  pub complete : (read : List ℕ) (i : Item) → Valid t.grammar read i
      → (n : ℕ) × IsStateOf t read n
  pub filled : (read : List ℕ) (n : ℕ) → IsStateOf t read n → (i : Item) × Valid t.grammar read i
  -- the states that are led to are those that have a row
  pub inside : (read : List ℕ) (n : ℕ) → IsStateOf t read n → n < length t.rows
  pub reached : (n : ℕ) → n < length t.rows → (read : List ℕ) × IsStateOf t read n
  -- two lists of symbols lead to one state where the same items are valid after both
  pub same : (read other : List ℕ) (n : ℕ) → IsStateOf t read n → IsStateOf t other n
      → SameItems (Valid t.grammar read) (Valid t.grammar other)
  pub distinct : (read other : List ℕ) (m n : ℕ) → IsStateOf t read m → IsStateOf t other n
      → SameItems (Valid t.grammar read) (Valid t.grammar other) → m ≡ n
  pub gotos : (read : List ℕ) (n symbol : ℕ) → IsStateOf t read n
      → ((m : ℕ) × (goto_of t n symbol ≡ Some m)) ↔ StandsBefore t.grammar read symbol
  pub actions : (read : List ℕ) (n token : ℕ) (a : Action) → IsStateOf t read n
      → Contains (actions_of t n token) a ↔ ActsBy t read token a
  pub once : (n token : ℕ) → EachOnce (actions_of t n token)
  -- where more than one action stays, the grammar declares the conflict
  pub declared : AreDeclared t.grammar
