-- How many actions there are. It serves private clauses and proofs alone.
use Rattle.std.specs.Prelude.{◌≡◌, ◌<◌, List, [], ◌∷◌, length}
use Rattle.ts_core.specs.declared.action.Action.{Action}
use Rattle.ts_steps.specs.declared.moving.Choice.{Choice}
use Rattle.ts_steps.specs.declared.moving.Choice.TheVariants.{Nothing, Only, Several}

-- there is none, or this one alone, or there are several
abbrev pub IsChoiceOf : List Action → Choice → Type 0
IsChoiceOf actions Nothing = actions ≡ []
IsChoiceOf actions (Only action) = actions ≡ action ∷ []
IsChoiceOf actions Several = 1 < length actions
