-- What is known while rules are gone through, those that a rule leads to before the rule itself.
use Rattle.std.specs.Prelude.{◌≡◌, ℕ, ◌<◌, List, [], ◌∷◌, ◌++◌, slice_get, Some, length, ◌⊎◌}
use Rattle.std.specs.List.{Contains}
use Rattle.ts_core.specs.declared.flat.FlatGrammar.{FlatGrammar}
use Rattle.ts_core.specs.declared.flat.FlatRule.{FlatRule}
use Rattle.ts_core.specs.declared.flat.Production.{Production}
use Rattle.ts_fit.specs.Searches.{LeadsAlone, LeadsTo}
use Rattle.ts_fit.specs.declared.straight.Frame.{Frame}

-- the rule at each of these places leads to earlier ones alone
abbrev pub AreInOrder : FlatGrammar → List ℕ → Type 0
AreInOrder f done = (k from to : ℕ) → slice_get done k ≡ Some from → LeadsAlone f from to
    → (m : ℕ) × (m < k) × (slice_get done m ≡ Some to)

-- this production of the rule at this place leads to the place
abbrev pub HasLeading : FlatGrammar → (from number to : ℕ) → Type 0
HasLeading f from number to = (r : FlatRule) × (p : Production)
    × (slice_get f.rules from ≡ Some r) × (slice_get r.productions number ≡ Some p)
    × LeadsTo f p to

-- the first productions of the rule at this place, so many, lead to done places alone
abbrev pub IsSettled : FlatGrammar → List ℕ → (from count : ℕ) → Type 0
IsSettled f done from count = (number to : ℕ) → number < count → HasLeading f from number to
    → Contains done to

-- a frame of the stack has this place
abbrev pub IsWaiting : List Frame → ℕ → Type 0
IsWaiting stack place = (frame : Frame) × Contains stack frame × (frame.place ≡ place)

-- of so many rules each is done or waits
pub record GoesThrough (f : FlatGrammar) (count : ℕ) (done : List ℕ) (stack : List Frame)
    : Type 0 where
  pub order : AreInOrder f done
  pub frames : (frame : Frame) → Contains stack frame
      → (frame.place < length f.rules) × IsSettled f done frame.place frame.next
  pub covered : (place : ℕ) → place < count → Contains done place ⊎ IsWaiting stack place

-- the frame goes on, and the child is on top
abbrev pub Pushed : List Frame → ℕ → Frame → List Frame → Type 0
Pushed old place child new = new ≡ (old ++ record { place = place; next = child.next } ∷ [])
    ++ record { place = child.place; next = 0 } ∷ []
