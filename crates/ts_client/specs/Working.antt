-- All steps of a client, one after the other.
use Rattle.std.specs.Prelude.{◌≡◌, ℕ, ◌≤◌, List, [], length, map, slice_get, Some, vec_capacity}
use Rattle.atomic_table.specs.Seated.{TableId}
use Rattle.ts_base.specs.Bytes.{Bytes}
use Rattle.ts_core.specs.declared.flat.FlatGrammar.{FlatGrammar}
use Rattle.ts_table.specs.declared.view.ParseTable.{ParseTable}
use Rattle.ts_shelf.specs.declared.view.Knowledge.{Knowledge}
use Rattle.ts_shelf.specs.Passes.{IsPass}
use Rattle.ts_docs.specs.declared.parsed.ParsedText.{ParsedText}
use Rattle.ts_docs.specs.declared.parsed.Drafted.{Drafted}
use Rattle.ts_docs.specs.Versions.{IsOfTable}
use Rattle.ts_script.specs.declared.plan.Plan.{Plan}
use Rattle.ts_script.specs.declared.plan.ScriptStep.{ScriptStep}
use Rattle.ts_replies.specs.declared.reply.ShownResult.{ShownResult}
use Rattle.ts_replies.specs.declared.reply.Reply.{Reply}
use Rattle.spec_clients.specs.Joined.{EndsOrStops}
use Rattle.spec_clients.specs.Served.{IsServed}
use Rattle.ts_replay.specs.Runs.{weight_of, edits_on}
use Rattle.ts_client.specs.declared.desk.Desk.{Desk}
use Rattle.ts_client.specs.declared.working.Client.{Client}
use Rattle.ts_client.specs.Serving.{MayServe}
use Rattle.ts_client.specs.Turns.{SamePass}

-- ---- before the first step

-- The client has not worked at the desk of this document: it holds the version that the document
-- was opened with, and its pass took no turn and may make an offer for each of its edits.
pub record IsFirstDesk (table : ParseTable) (shelf : TableId) (document : ℕ)
    (steps : List ScriptStep) (d : Desk) : Type 0 where
  pub may : MayServe table shelf d
  pub number_is : d.number ≡ 0
  pub opens : d.pass.knows.opening ≡ Some d.version
  pub none_taken : d.pass.knows.taken ≡ []
  pub offers : weight_of (edits_on document) steps ≤ d.pass.knows.offers

-- a client with these steps before all of them, with a desk at each of the shelves
pub record IsNewClient (table : ParseTable) (shelves : List TableId) (steps : List ScriptStep)
    (c : Client) : Type 0 where
  pub none_replied : c.replies.items ≡ []
  -- there is room for a reply to each step
  pub room : length steps ≤ vec_capacity c.replies
  pub count : length c.desks.items ≡ length shelves
  pub each : (document : ℕ) (shelf : TableId) (d : Desk) → slice_get shelves document ≡ Some shelf
      → slice_get c.desks.items document ≡ Some d
      → IsFirstDesk table shelf document steps d

-- ---- after the last one

-- what the passes of a client know
abbrev pub passes_of : List Desk → List (Knowledge ParsedText Drafted)
passes_of desks = map (λ (d : Desk). d.pass.knows) desks

module _ (Finds : Bytes → List ℕ → List ShownResult → Type 0) where
  -- the client's pass of the document, from its first step to its last one
  pub record HasServed (plan : Plan) (g : FlatGrammar) (client document : ℕ)
      (steps : List ScriptStep) (replies : List Reply) (old new : Desk) : Type 0 where
    pub shelf_is : new.pass.shelf ≡ old.pass.shelf
    pub is_pass : IsPass IsOfTable new.pass.knows
    pub same : SamePass old.pass.knows new.pass.knows
    pub served : (opening : ParsedText) → old.pass.knows.opening ≡ Some opening
        → IsServed Finds plan g opening client document steps replies new.pass.knows

  -- the client of this number has done its steps, or all that it had turns for, at desks that were
  -- these at first
  pub record HasWorked (plan : Plan) (g : FlatGrammar) (client : ℕ) (steps : List ScriptStep)
      (first : List Desk) (now : Client) : Type 0 where
    pub count : length now.desks.items ≡ length first
    pub each : (document : ℕ) (o n : Desk) → slice_get first document ≡ Some o
        → slice_get now.desks.items document ≡ Some n
        → HasServed plan g client document steps now.replies.items o n
    pub ends : EndsOrStops (length plan.documents) steps now.replies.items
        (passes_of now.desks.items)
