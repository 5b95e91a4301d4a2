-- How much a script asks for.
use Rattle.std.specs.Prelude.{◌≡◌, ℕ, ◌<◌, ◌≤◌, List, length, slice_get, Some}
use Rattle.ts_script.specs.Rules.{most_clients, most_script_steps}
use Rattle.ts_script.specs.declared.plan.Plan.{Plan}
use Rattle.ts_script.specs.declared.plan.ScriptStep.{ScriptStep}
use Rattle.spec_history.specs.Replies.{document_of}
use Rattle.spec_history.specs.Histories.{asked_at}

-- there are few clients with few steps each, on the documents of the script
pub record IsBounded (plan : Plan) : Type 0 where
  pub clients : length plan.clients ≤ most_clients
  pub few : (client : ℕ) (steps : List ScriptStep) → slice_get plan.clients client ≡ Some steps
      → length steps ≤ most_script_steps
  pub on : (client number : ℕ) (s : ScriptStep) → asked_at plan client number ≡ Some s
      → document_of s < length plan.documents
