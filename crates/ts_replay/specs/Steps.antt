-- One step of a client, on its document. It serves private clauses and proofs alone.
use Rattle.std.specs.Prelude.{◌≡◌, ℕ, suc, ◌+◌, ◌<◌, ◌≤◌, ◌^◌, List, [], ◌∷◌, ◌++◌, length}
use Rattle.ts_base.specs.Bytes.{Bytes}
use Rattle.ts_shelf.specs.Entries.{most_turns, RisesWithin}
use Rattle.spec_output.specs.declared.outcome.ShownOutcome.{ShownOutcome}
use Rattle.ts_text.specs.Edit.{InRange, IsOver}
use Rattle.ts_text.specs.declared.edit.Edit.{Edit as TextEdit}
use Rattle.ts_docs.specs.declared.parsed.ParsedText.{ParsedText}
use Rattle.ts_docs.specs.declared.parsed.Drafted.{Drafted}
use Rattle.ts_docs.specs.declared.parsed.Pages.{Pages}
use Rattle.ts_docs.specs.Books.{pages}
use Rattle.ts_docs.specs.Versions.{Drafts}
use Rattle.ts_docs.specs.Steps.{newest}
use Rattle.ts_script.specs.declared.plan.ScriptStep.{ScriptStep}
use Rattle.ts_script.specs.declared.plan.ScriptStep.TheVariants as step
use Rattle.ts_replies.specs.declared.reply.ShownResult.{ShownResult}
use Rattle.ts_replies.specs.declared.reply.Reply.{Reply}
use Rattle.ts_replies.specs.declared.reply.Reply.TheVariants as reply
use Rattle.spec_history.specs.Replies.{most_looks}
use Rattle.spec_history.specs.Legal.{CanEdit, IsShown, HasTree}

-- a document between two steps, and the version of it that a client holds: how many turns are over,
-- the journal, and the held version
pub record Place : Type 0 where
  pub turn : ℕ
  pub book : Pages
  pub held : ParsedText

-- a place, by its turns that are over, its journal and the held version
abbrev pub place : ℕ → Pages → ParsedText → Place
place turn book held = record { turn = turn; book = book; held = held }

-- the journal with one more entry
abbrev pub with_entry : Pages → ℕ → Drafted → ℕ → Pages
with_entry b turn d room =
    pages b.opening (b.entries ++ record { turn = turn; item = d } ∷ []) room

-- the place after so many turns which changed nothing and showed the newest version
abbrev pub after_looks : ℕ → Place → Place
after_looks looks p = place (p.turn + looks) p.book (newest p.book)

-- What the client's step of this number does at a place where it asks no queries, or finds no
-- memory: the reply to it, and the place after it.
pub data DoesStep (client number : ℕ) (before : Place) : ScriptStep → Reply → Place → Type 0 where
  publishes : (document : ℕ) (edit : TextEdit) (d : Drafted) (room : ℕ)
      → CanEdit before.held.text edit → before.held.number ≡ length before.book.entries
      → Drafts before.held client number edit d → room + 1 ≡ before.book.room
      → DoesStep client number before (step.Edit document edit)
      (reply.Published before.turn (suc (length before.book.entries)))
      (place (before.turn + 1) (with_entry before.book before.turn d room) d.version)
  is_behind : (document : ℕ) (edit : TextEdit)
      → CanEdit before.held.text edit → before.held.number < length before.book.entries
      → DoesStep client number before (step.Edit document edit)
      (reply.Newer before.turn (length before.book.entries)) (after_looks 1 before)
  out_of_range : (document : ℕ) (edit : TextEdit)
      → (InRange before.held.text edit → ⊥)
      → DoesStep client number before (step.Edit document edit)
      (reply.Range before.held.number) before
  too_large : (document : ℕ) (edit : TextEdit) (bytes : ℕ)
      → IsOver before.held.text edit bytes
      → DoesStep client number before (step.Edit document edit)
      (reply.Size bytes before.held.number) before
  looks : (document : ℕ) → DoesStep client number before (step.Look document)
      (reply.Look before.turn (length before.book.entries)) (after_looks 1 before)
  waits : (document wanted : ℕ) → wanted ≤ length before.book.entries
      → DoesStep client number before (step.Await document wanted)
      (reply.Await before.turn (length before.book.entries)) (after_looks 1 before)
  gives_up : (document wanted turn : ℕ) → length before.book.entries < wanted
      → suc turn ≡ before.turn + most_looks
      → DoesStep client number before (step.Await document wanted)
      (reply.Late turn (length before.book.entries)) (after_looks most_looks before)
  shows : (document : ℕ) (outcome : ShownOutcome)
      → IsShown before.held.table.grammar before.held.text outcome
      → DoesStep client number before (step.Tree document)
      (reply.Tree outcome before.held.number) before
  has_no_memory : (s : ScriptStep)
      → DoesStep client number before s (reply.Memory before.held.number) before

-- the same for each step
pub data Does (Finds : Bytes → List ℕ → List ShownResult → Type 0) (client number : ℕ)
    (before : Place) : ScriptStep → Reply → Place → Type 0 where
  asks_nothing : (s : ScriptStep) (r : Reply) (after : Place)
      → DoesStep client number before s r after → Does Finds client number before s r after
  finds : (document : ℕ) (queries : List ℕ) (results : List ShownResult)
      → HasTree before.held.table.grammar before.held.text
      → Finds before.held.text queries results
      → Does Finds client number before (step.Query document queries)
      (reply.Results results before.held.number) before
  has_no_tree : (document : ℕ) (queries : List ℕ) (outcome : ShownOutcome)
      → (HasTree before.held.table.grammar before.held.text → ⊥)
      → IsShown before.held.table.grammar before.held.text outcome
      → Does Finds client number before (step.Query document queries)
      (reply.Absent outcome before.held.number) before

-- what is known of a place before each step
pub record MayStep (p : Place) : Type 0 where
  -- the turns of the entries rise, and are over
  pub rises : RisesWithin 0 p.turn p.book.entries
  -- one table parsed all versions
  pub one_table : p.book.opening.table ≡ p.held.table
  -- the held version is there
  pub held_there : p.held.number ≤ length p.book.entries
  -- there is a number for one more version, and there are turns for one more step
  pub few : length p.book.entries + 1 < 2 ^ 32
  pub spare : p.turn + most_looks < most_turns

-- an edit needs room in the journal
abbrev pub NeedsRoom : ScriptStep → ℕ → Type 0
NeedsRoom (step.Edit document edit) room = 0 < room
NeedsRoom (step.Look document) room = Unit {0}
NeedsRoom (step.Query document queries) room = Unit {0}
NeedsRoom (step.Tree document) room = Unit {0}
NeedsRoom (step.Await document wanted) room = Unit {0}
