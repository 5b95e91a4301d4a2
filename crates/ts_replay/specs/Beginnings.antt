-- A step up to its turn.
use Rattle.std.specs.Prelude.{◌≡◌, ℕ, List}
use Rattle.spec_trees.specs.declared.tree.Tree.{Tree}
use Rattle.spec_runs.specs.Outcomes.{tree_outcome, Fresh}
use Rattle.spec_output.specs.declared.outcome.ShownOutcome.{ShownOutcome}
use Rattle.ts_text.specs.Edit.{InRange, IsOver}
use Rattle.ts_text.specs.declared.edit.Edit.{Edit as TextEdit}
use Rattle.ts_docs.specs.declared.parsed.ParsedText.{ParsedText}
use Rattle.ts_docs.specs.declared.parsed.Drafted.{Drafted}
use Rattle.ts_docs.specs.Versions.{Drafts}
use Rattle.ts_script.specs.declared.plan.ScriptStep.{ScriptStep}
use Rattle.ts_script.specs.declared.plan.ScriptStep.TheVariants as step
use Rattle.ts_replies.specs.declared.reply.Reply.{Reply}
use Rattle.ts_replies.specs.declared.reply.Reply.TheVariants as reply
use Rattle.spec_history.specs.Legal.{CanEdit, IsShown, HasTree}
use Rattle.ts_replay.specs.declared.begun.Begun.{Begun}
use Rattle.ts_replay.specs.declared.begun.Begun.TheVariants as begun

-- the reply to a step that takes no turn and asks no queries, of the version that is held and was
-- shown with this number
pub data TellsHeld (held : ParsedText) (number : ℕ) : ScriptStep → Reply → Type 0 where
  out_of_range : (document : ℕ) (edit : TextEdit) → (InRange held.text edit → ⊥)
      → TellsHeld held number (step.Edit document edit) (reply.Range number)
  too_large : (document : ℕ) (edit : TextEdit) (bytes : ℕ) → IsOver held.text edit bytes
      → TellsHeld held number (step.Edit document edit) (reply.Size bytes number)
  shows : (document : ℕ) (outcome : ShownOutcome)
      → IsShown held.table.grammar held.text outcome
      → TellsHeld held number (step.Tree document) (reply.Tree outcome number)
  has_no_tree : (document : ℕ) (queries : List ℕ) (outcome : ShownOutcome)
      → (HasTree held.table.grammar held.text → ⊥)
      → IsShown held.table.grammar held.text outcome
      → TellsHeld held number (step.Query document queries) (reply.Absent outcome number)
  has_no_memory : (s : ScriptStep) → TellsHeld held number s (reply.Memory number)

-- the step of this number of a client is an edit of the held version, and this is the draft of it
pub record DraftsHeld (client number : ℕ) (held : ParsedText) (s : ScriptStep) (d : Drafted)
    (made : ParsedText) : Type 0 where
  pub document : ℕ
  pub edit : TextEdit
  pub step_is : s ≡ step.Edit document edit
  pub can : CanEdit held.text edit
  pub drafts : Drafts held client number edit d
  pub made_is : made ≡ d.version

-- the step asks these queries, and the held version comes to this tree
pub record AsksHeld (held : ParsedText) (s : ScriptStep) (root : Tree) (queries : List ℕ)
    : Type 0 where
  pub document : ℕ
  pub step_is : s ≡ step.Query document queries
  pub fresh : Fresh held.table.grammar held.text (tree_outcome root)

-- what a client's step of this number comes to up to its turn, at the version that is held and was
-- shown with the second number
abbrev pub Begins : ℕ → ℕ → ParsedText → ℕ → ScriptStep → Begun → Type 0
Begins client number held shown_as s (begun.Told r) = TellsHeld held shown_as s r
Begins client number held shown_as s (begun.Offer d made) = DraftsHeld client number held s d made
Begins client number held shown_as s begun.Look = (document : ℕ) × (s ≡ step.Look document)
Begins client number held shown_as s (begun.Await wanted) =
    (document : ℕ) × (s ≡ step.Await document wanted)
Begins client number held shown_as s (begun.Ask root queries) =
    AsksHeld held s root.now queries.now
