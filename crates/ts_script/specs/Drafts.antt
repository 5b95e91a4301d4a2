-- What a draft keeps of the lines above; for private clauses and proofs alone.
use Rattle.std.specs.Prelude.{ℕ, ◌≡◌, ◌<◌, ◌≤◌, List, ◌∷◌, [], ◌++◌, length, slice_get, Some, if◌then◌else◌, nat_eq}
use Rattle.ts_text.specs.Text.{most_bytes}
use Rattle.ts_base.specs.Bytes.{Bytes}
use Rattle.ts_script.specs.declared.draft.Draft.{Draft}
use Rattle.ts_script.specs.declared.fault.SFault.{SFault}
use Rattle.ts_script.specs.declared.fault.SFault.TheVariants.{Order, Limit}
use Rattle.ts_script.specs.declared.plan.ScriptStep.{ScriptStep}
use Rattle.ts_script.specs.declared.said.Said.{Said}
use Rattle.ts_script.specs.declared.said.Said.TheVariants.{Text, Path, Load, Step}
use Rattle.ts_script.specs.Lines.{AreLines}
use Rattle.ts_script.specs.Rules.{sources, queries, steps, steps_of, client_count, most_clients, most_script_steps, IsSmallAction, StandsRight, WithinLimits}
use Rattle.ts_script.specs.Script.{Reads, FailsIn}

-- the clients below the length have these steps
abbrev pub HaveSteps : (ℕ → List ScriptStep) → List (List ScriptStep) → Type 0
HaveSteps steps_by clients =
    (c : ℕ) → c < length clients → slice_get clients c ≡ Some (steps_by c)

-- the same, with one more step of a client
abbrev pub with_step : ℕ → ScriptStep → (ℕ → List ScriptStep) → ℕ → List ScriptStep
with_step client step steps_by c =
    if nat_eq c client then steps_by c ++ step ∷ [] else steps_by c

-- who has these clients' steps has also those of more clients, without steps
abbrev pub Extends : List (List ScriptStep) → List (List ScriptStep) → Type 0
Extends old new =
    (steps_by : ℕ → List ScriptStep) → HaveSteps steps_by old
    → ((c : ℕ) → length old ≤ c → steps_by c ≡ []) → HaveSteps steps_by new

-- the draft has what the lines ask for
pub record IsDraft (said : List Said) (draft : Draft) : Type 0 where
  pub documents : draft.documents ≡ sources said
  pub loaded : draft.queries ≡ queries said
  pub clients : length draft.clients.items ≡ client_count said
  pub of_each : HaveSteps (λ (c : ℕ). steps_of c said) draft.clients.items
  pub count : draft.steps ≡ length (steps said)

-- the limits that a line passes whatever stands above it, but for the number of steps there
abbrev pub IsSmall : ℕ → Said → Type 0
IsSmall above (Text text) = length text ≤ most_bytes
IsSmall above (Path path) = Unit {0}
IsSmall above (Load text) = Unit {0}
IsSmall above (Step client document act) =
    (client < most_clients) × (above < most_script_steps) × IsSmallAction act

-- what is said may stand there
abbrev pub IsAccepted : List Said → Said → Type 0
IsAccepted before said = StandsRight before said × WithinLimits before said

-- it may not
pub data IsRefused (before : List Said) (said : Said) (n : ℕ) : SFault → Type 0 where
  out_of_order : (StandsRight before said → ⊥) → IsRefused before said n (Order n)
  too_much : StandsRight before said → (WithinLimits before said → ⊥)
      → IsRefused before said n (Limit n)

-- reading these lines on is reading those of the bytes
pub record GoesOn (bytes : Bytes) (said : List Said) (n : ℕ) (lines : List Bytes) : Type 0 where
  pub all : List Bytes
  pub cut : AreLines bytes all
  pub reads : (end : List Said) → Reads said lines end → Reads [] all end
  pub fails : (f : SFault) → FailsIn said n lines f → FailsIn [] 1 all f

-- the lines of the rest, read on from a draft, are those of the bytes
pub record Goes (bytes rest : Bytes) (n : ℕ) (draft : Draft) : Type 0 where
  pub said : List Said
  pub is : IsDraft said draft
  pub on : (lines : List Bytes) → AreLines rest lines → GoesOn bytes said n lines
