-- The valid tokens of the states of a table.
use Rattle.std.specs.Prelude.{◌≡◌, ℕ, ◌≤◌, ◌<◌, ◌⊎◌, List, length, slice_get, Some, ◌↔◌}
use Rattle.std.specs.List.{Contains}
use Rattle.ts_core.specs.declared.action.Action.{Action}
use Rattle.ts_core.specs.declared.symbol.Symbol.{Symbol}
use Rattle.ts_table.specs.declared.view.ParseTable.{ParseTable}
use Rattle.ts_table.specs.Tables.{actions_of}

-- the state does something on the token
abbrev pub HasAction : ParseTable → ℕ → ℕ → Type 0
HasAction t state token = (a : Action) × Contains (actions_of t state token) a

-- the symbol is valid in the state: a token, or the end, on which it acts, or an extra
pub data IsValidToken (t : ParseTable) (state : ℕ) (symbol : Symbol) : Type 0 where
  acts : symbol.0 ≤ length t.grammar.tokens → HasAction t state symbol.0
      → IsValidToken t state symbol
  extra : Contains t.grammar.extras symbol → IsValidToken t state symbol

-- the lists have the same symbols
abbrev pub HaveSameSymbols : List Symbol → List Symbol → Type 0
HaveSameSymbols valid other = (s : Symbol) → Contains valid s ↔ Contains other s

-- the list has the valid tokens of the state, and no others
abbrev pub AreValid : ParseTable → ℕ → List Symbol → Type 0
AreValid t state valid = (s : Symbol) → Contains valid s ↔ IsValidToken t state s

-- the list has the tokens below the number on which the state acts
abbrev pub AreActing : ParseTable → ℕ → List Symbol → ℕ → Type 0
AreActing t state valid number =
    (s : Symbol) → Contains valid s ↔ ((s.0 < number) × HasAction t state s.0)

-- the list has the token more, if the state acts on it
abbrev pub GainsActing : ParseTable → ℕ → Symbol → List Symbol → List Symbol → Type 0
GainsActing t state token old new =
    (s : Symbol) → Contains new s ↔ (Contains old s ⊎ ((s ≡ token) × HasAction t state token.0))

-- the list of this number has the valid tokens of the state
pub record HasList (t : ParseTable) (state : ℕ) (lists : List (List Symbol)) (k : ℕ) : Type 0 where
  pub valid : List Symbol
  pub at : slice_get lists k ≡ Some valid
  pub are_valid : AreValid t state valid

-- there is a number for each state, and the list of that number is the state's
pub record HaveLists (t : ParseTable) (lists : List (List Symbol)) (numbers : List ℕ) : Type 0 where
  pub count : length numbers ≡ length t.rows
  pub each : (state k : ℕ) → slice_get numbers state ≡ Some k → HasList t state lists k
