-- One step of a client at its desk of the step's document.
use Rattle.std.specs.Prelude.{◌≡◌, ℕ, ◌<◌, ◌≤◌, List, [], ◌∷◌, length}
use Rattle.ts_base.specs.Bytes.{Bytes}
use Rattle.spec_output.specs.declared.outcome.ShownOutcome.{ShownOutcome}
use Rattle.ts_text.specs.Edit.{InRange, IsOver}
use Rattle.ts_text.specs.declared.edit.Edit.{Edit as TextEdit}
use Rattle.ts_shelf.specs.declared.view.Knowledge.{Knowledge}
use Rattle.ts_shelf.specs.Calls.{Publishes}
use Rattle.ts_docs.specs.declared.parsed.ParsedText.{ParsedText}
use Rattle.ts_docs.specs.declared.parsed.Drafted.{Drafted}
use Rattle.ts_docs.specs.Versions.{Drafts}
use Rattle.ts_script.specs.declared.plan.ScriptStep.{ScriptStep}
use Rattle.ts_script.specs.declared.plan.ScriptStep.TheVariants as step
use Rattle.ts_replies.specs.declared.reply.ShownResult.{ShownResult}
use Rattle.ts_replies.specs.declared.reply.Reply.{Reply}
use Rattle.ts_replies.specs.declared.reply.Reply.TheVariants as reply
use Rattle.spec_history.specs.Replies.{most_looks}
use Rattle.spec_history.specs.Legal.{CanEdit, IsShown, HasTree}
use Rattle.ts_client.specs.declared.desk.Desk.{Desk}
use Rattle.ts_client.specs.Looks.{IsLatest}
use Rattle.ts_client.specs.Turns.{TakesIdle, LooksUntil, RunsOut}

-- what a client has of a document: what its pass knows, and the version that it holds, with the
-- number with which it was shown
pub record Standing : Type 0 where
  pub knows : Knowledge ParsedText Drafted
  pub number : ℕ
  pub version : ParsedText

-- what a client has, by what its pass knows, the number and the version
abbrev pub standing : Knowledge ParsedText Drafted → ℕ → ParsedText → Standing
standing knows number version =
    record { knows = knows; number = number; version = version }

-- that of a desk
abbrev pub standing_at : Desk → Standing
standing_at d = standing d.pass.knows d.number d.version

-- What the client's step of this number does where it asks no queries, or finds no memory: the
-- reply to it, and what the client has after it.
pub data ServesStep (client number : ℕ) (old : Standing) : ScriptStep → Reply → Standing
    → Type 0 where
  -- a draft of the held version is published
  publishes : (document : ℕ) (edit : TextEdit) (d : Drafted) (k : Knowledge ParsedText Drafted)
      (turn version : ℕ) → CanEdit old.version.text edit
      → Drafts old.version client number edit d
      → Publishes old.knows k old.number d turn version
      → ServesStep client number old (step.Edit document edit) (reply.Published turn version)
      (standing k version d.version)
  -- a newer version was there, and is held now
  is_behind : (document : ℕ) (edit : TextEdit) (k : Knowledge ParsedText Drafted)
      (turn number_now : ℕ) (version : ParsedText) → CanEdit old.version.text edit
      → LooksUntil old.knows k (turn ∷ []) turn number_now → old.number < number_now
      → IsLatest k version
      → ServesStep client number old (step.Edit document edit) (reply.Newer turn number_now)
      (standing k number_now version)
  out_of_range : (document : ℕ) (edit : TextEdit) → (InRange old.version.text edit → ⊥)
      → ServesStep client number old (step.Edit document edit) (reply.Range old.number) old
  too_large : (document : ℕ) (edit : TextEdit) (bytes : ℕ) → IsOver old.version.text edit bytes
      → ServesStep client number old (step.Edit document edit) (reply.Size bytes old.number) old
  -- the newest version is held now
  looks : (document : ℕ) (k : Knowledge ParsedText Drafted) (turn number_now : ℕ)
      (version : ParsedText) → LooksUntil old.knows k (turn ∷ []) turn number_now
      → IsLatest k version
      → ServesStep client number old (step.Look document) (reply.Look turn number_now)
      (standing k number_now version)
  -- after some looks the awaited version is there, or a later one
  waits : (document wanted : ℕ) (turns : List ℕ) (k : Knowledge ParsedText Drafted)
      (turn number_now : ℕ) (version : ParsedText)
      → LooksUntil old.knows k turns turn number_now → length turns ≤ most_looks
      → wanted ≤ number_now → IsLatest k version
      → ServesStep client number old (step.Await document wanted) (reply.Await turn number_now)
      (standing k number_now version)
  -- after all looks it is not
  gives_up : (document wanted : ℕ) (turns : List ℕ) (k : Knowledge ParsedText Drafted)
      (turn number_now : ℕ) (version : ParsedText)
      → LooksUntil old.knows k turns turn number_now → length turns ≡ most_looks
      → number_now < wanted → IsLatest k version
      → ServesStep client number old (step.Await document wanted) (reply.Late turn number_now)
      (standing k number_now version)
  shows : (document : ℕ) (outcome : ShownOutcome)
      → IsShown old.version.table.grammar old.version.text outcome
      → ServesStep client number old (step.Tree document) (reply.Tree outcome old.number) old
  -- there is no memory, after some looks of an await
  has_no_memory : (s : ScriptStep) (turns : List ℕ) (k : Knowledge ParsedText Drafted)
      → TakesIdle old.knows k turns → length turns ≤ most_looks
      → ServesStep client number old s (reply.Memory old.number)
      (standing k old.number old.version)

-- the same for each step
pub data Serves (Finds : Bytes → List ℕ → List ShownResult → Type 0) (client number : ℕ)
    (old : Standing) : ScriptStep → Reply → Standing → Type 0 where
  asks_nothing : (s : ScriptStep) (r : Reply) (new : Standing)
      → ServesStep client number old s r new → Serves Finds client number old s r new
  -- what the queries find in the tree of the held version
  finds : (document : ℕ) (queries : List ℕ) (results : List ShownResult)
      → HasTree old.version.table.grammar old.version.text
      → Finds old.version.text queries results
      → Serves Finds client number old (step.Query document queries)
      (reply.Results results old.number) old
  -- the held version has no tree to ask
  has_no_tree : (document : ℕ) (queries : List ℕ) (outcome : ShownOutcome)
      → (HasTree old.version.table.grammar old.version.text → ⊥)
      → IsShown old.version.table.grammar old.version.text outcome
      → Serves Finds client number old (step.Query document queries)
      (reply.Absent outcome old.number) old

-- all turns of the document were over before the step was done
pub record StopsEarly (old new : Standing) : Type 0 where
  pub turns : List ℕ
  pub out : RunsOut old.knows new.knows turns
  pub few : length turns ≤ most_looks
