-- Which journals and replies a run of a script may have.
use Rattle.std.specs.Prelude.{◌≡◌, ℕ, suc, ◌+◌, ◌<◌, ◌≤◌, List, length, slice_get, Option, Some, None, ◌↔◌}
use Rattle.ts_base.specs.Bytes.{Bytes}
use Rattle.ts_core.specs.declared.flat.FlatGrammar.{FlatGrammar}
use Rattle.spec_runs.specs.Outcomes.{FreshOutcome, tree_outcome, Fresh}
use Rattle.spec_trees.specs.declared.tree.Tree.{Tree as ParseTree}
use Rattle.spec_output.specs.declared.outcome.ShownOutcome.{ShownOutcome}
use Rattle.ts_print.specs.Printed.{shown_outcome}
use Rattle.ts_shelf.specs.Entries.{most_turns}
use Rattle.ts_text.specs.Edit.{InRange, Fits, IsOver}
use Rattle.ts_text.specs.declared.edit.Edit.{Edit as TextEdit}
use Rattle.ts_script.specs.declared.plan.Plan.{Plan}
use Rattle.ts_script.specs.declared.plan.ScriptStep.{ScriptStep}
use Rattle.ts_script.specs.declared.plan.ScriptStep.TheVariants as step
use Rattle.ts_replies.specs.declared.reply.ShownResult.{ShownResult}
use Rattle.ts_replies.specs.declared.reply.Reply.{Reply}
use Rattle.ts_replies.specs.declared.reply.Reply.TheVariants as reply
use Rattle.spec_history.specs.Replies.{document_of, turn_told, most_looks}
use Rattle.spec_history.specs.Histories.{JournalEntry, History, IsAnswered, version_text, entries_below, held_before, last_told, all_paired, accounted_all}

-- ---- one reply

-- what is shown of a text is what parsing it comes to
pub record IsShown (g : FlatGrammar) (text : Bytes) (shown : ShownOutcome) : Type 0 where
  pub outcome : FreshOutcome
  pub fresh : Fresh g text outcome
  pub is : shown ≡ shown_outcome g text outcome

-- parsing the text comes to a tree
abbrev pub HasTree : FlatGrammar → Bytes → Type 0
HasTree g text = (t : ParseTree) × Fresh g text (tree_outcome t)

-- the edit may be made in the text
pub record CanEdit (text : Bytes) (edit : TextEdit) : Type 0 where
  pub in_range : InRange text edit
  pub fits : Fits text edit

-- at the turn so many entries were there, which are no fewer than the client held
pub record ShowsAt (entries : List JournalEntry) (before turn number : ℕ) : Type 0 where
  pub count : number ≡ entries_below turn entries
  pub not_older : before ≤ number

-- an await that gave up had as many looks as it may make: from the client's last turn on the
-- document, or from the first turn of the document
abbrev pub HadAllLooks : Option ℕ → ℕ → Type 0
HadAllLooks None turn = most_looks ≤ suc turn
HadAllLooks (Some last) turn = last + most_looks ≤ turn

module _ (Finds : Bytes → List ℕ → List ShownResult → Type 0) where
  -- The reply is right for the step of a client that holds the version `before` of a document with
  -- this first text and these entries, and that was last told the turn `last`.
  pub data IsRight (plan : Plan) (g : FlatGrammar) (opening : Bytes) (entries : List JournalEntry)
      (before : ℕ) (last : Option ℕ) : ScriptStep → Reply → Type 0 where
    -- an edit of the newest version is published as the next one
    published : (document : ℕ) (edit : TextEdit) (turn version : ℕ)
        → CanEdit (version_text plan opening entries before) edit
        → before ≡ entries_below turn entries → version ≡ suc before
        → IsRight plan g opening entries before last (step.Edit document edit)
        (reply.Published turn version)
    -- there is a newer version, which is shown
    newer : (document : ℕ) (edit : TextEdit) (turn version : ℕ)
        → CanEdit (version_text plan opening entries before) edit
        → ShowsAt entries before turn version → before < version
        → IsRight plan g opening entries before last (step.Edit document edit)
        (reply.Newer turn version)
    -- the range is not one of the held version
    range : (document : ℕ) (edit : TextEdit) (version : ℕ)
        → (InRange (version_text plan opening entries before) edit → ⊥) → version ≡ before
        → IsRight plan g opening entries before last (step.Edit document edit)
        (reply.Range version)
    -- the text would have so many bytes, which are too many
    size : (document : ℕ) (edit : TextEdit) (bytes version : ℕ)
        → IsOver (version_text plan opening entries before) edit bytes → version ≡ before
        → IsRight plan g opening entries before last (step.Edit document edit)
        (reply.Size bytes version)
    -- the newest version is shown
    look : (document turn version : ℕ) → ShowsAt entries before turn version
        → IsRight plan g opening entries before last (step.Look document)
        (reply.Look turn version)
    -- the version that was awaited is there, or a later one
    await : (document wanted turn version : ℕ) → ShowsAt entries before turn version
        → wanted ≤ version
        → IsRight plan g opening entries before last (step.Await document wanted)
        (reply.Await turn version)
    -- the version that was awaited is not there after all looks
    late : (document wanted turn version : ℕ) → ShowsAt entries before turn version
        → version < wanted → HadAllLooks last turn
        → IsRight plan g opening entries before last (step.Await document wanted)
        (reply.Late turn version)
    -- the outcome of the held version
    tree : (document version : ℕ) (outcome : ShownOutcome)
        → IsShown g (version_text plan opening entries before) outcome → version ≡ before
        → IsRight plan g opening entries before last (step.Tree document)
        (reply.Tree outcome version)
    -- what the queries find in the tree of the held version
    results : (document version : ℕ) (queries : List ℕ) (results : List ShownResult)
        → HasTree g (version_text plan opening entries before)
        → Finds (version_text plan opening entries before) queries results → version ≡ before
        → IsRight plan g opening entries before last (step.Query document queries)
        (reply.Results results version)
    -- the held version has no tree to ask, and this is its outcome
    absent : (document version : ℕ) (queries : List ℕ) (outcome : ShownOutcome)
        → (HasTree g (version_text plan opening entries before) → ⊥)
        → IsShown g (version_text plan opening entries before) outcome → version ≡ before
        → IsRight plan g opening entries before last (step.Query document queries)
        (reply.Absent outcome version)
    -- there is no memory for the step
    memory : (s : ScriptStep) (version : ℕ) → version ≡ before
        → IsRight plan g opening entries before last s (reply.Memory version)

  -- the reply to the client's step of this number is right
  pub record IsRightAt (h : History) (client number : ℕ) (s : ScriptStep) (r : Reply)
      : Type 0 where
    pub opening : Bytes
    pub opening_is : slice_get h.openings (document_of s) ≡ Some opening
    pub entries : List JournalEntry
    pub entries_are : slice_get h.journals (document_of s) ≡ Some entries
    pub right : IsRight h.plan h.grammar opening entries
        (held_before h client number (document_of s))
        (last_told h client number (document_of s)) s r

-- ---- all replies

-- the step of a client was published on the document, as the version
pub record IsPublishedAs (h : History) (document : ℕ) (e : JournalEntry) (version : ℕ)
    : Type 0 where
  pub step : ScriptStep
  pub answered : IsAnswered h e.client e.step step (reply.Published e.turn version)
  pub on : document_of step ≡ document

-- the entry stands in the journal of the document, with this number of entries before it
pub record IsEntryAt (h : History) (document number : ℕ) (e : JournalEntry) : Type 0 where
  pub entries : List JournalEntry
  pub entries_are : slice_get h.journals document ≡ Some entries
  pub stands : slice_get entries number ≡ Some e

-- the reply to the client's step of this number tells the turn, of the document
pub record TellsTurn (h : History) (document client number turn : ℕ) : Type 0 where
  pub step : ScriptStep
  pub answer : Reply
  pub answered : IsAnswered h client number step answer
  pub on : document_of step ≡ document
  pub told : turn_told answer ≡ Some turn

-- what holds of the steps that were answered, in a run that may not be over
pub record LegalSoFar (Finds : Bytes → List ℕ → List ShownResult → Type 0) (h : History)
    : Type 0 where
  -- each reply is right for its step
  pub right : (client number : ℕ) (s : ScriptStep) (r : Reply) → IsAnswered h client number s r
      → IsRightAt Finds h client number s r
  -- turns are below the number of turns that a document has
  pub few : (document client number turn : ℕ) → TellsTurn h document client number turn
      → turn < most_turns
  -- no two replies of one document tell the same turn
  pub apart : (document turn client number other n : ℕ)
      → TellsTurn h document client number turn → TellsTurn h document other n turn
      → (client ≡ other) × (number ≡ n)
  -- the turns of one client on one document rise
  pub rise : (document client number turn n t : ℕ) → TellsTurn h document client number turn
      → TellsTurn h document client n t → number < n → turn < t
  -- the entries of the journals are the steps that were published, each once, in the journal of its
  -- document, with its turn, and as the version that it tells
  pub entered : (document number : ℕ) (e : JournalEntry)
      → IsEntryAt h document number e ↔ IsPublishedAs h document e (suc number)
  -- the turns of a journal rise
  pub rising : (document number : ℕ) (e f : JournalEntry) → IsEntryAt h document number e
      → IsEntryAt h document (suc number) f → e.turn < f.turn
  -- up to each turn that a reply tells, replies account for no more turns than there are
  pub accounted : (document client number turn : ℕ) → TellsTurn h document client number turn
      → accounted_all document turn (all_paired h.plan.clients h.replies) ≤ suc turn

-- each step has a reply, and each document a journal
pub record IsCompleteHistory (h : History) : Type 0 where
  pub openings : length h.openings ≡ length h.plan.documents
  pub journals : length h.journals ≡ length h.plan.documents
  pub clients : length h.replies ≡ length h.plan.clients
  pub each : (client : ℕ) (steps : List ScriptStep) (own : List Reply)
      → slice_get h.plan.clients client ≡ Some steps → slice_get h.replies client ≡ Some own
      → length own ≡ length steps

-- the journals and replies are lawful for the script
pub record Legal (Finds : Bytes → List ℕ → List ShownResult → Type 0) (h : History)
    : Type 0 where
  pub whole : IsCompleteHistory h
  pub lawful : LegalSoFar Finds h
