-- The journals of documents, as what is left of a run.
use Rattle.std.specs.Prelude.{◌≡◌, ℕ, suc, List, length, map, slice_get, Some}
use Rattle.ts_base.specs.Bytes.{Bytes}
use Rattle.ts_core.specs.declared.flat.FlatGrammar.{FlatGrammar}
use Rattle.ts_shelf.specs.declared.journal.Entry.{Entry}
use Rattle.ts_docs.specs.declared.parsed.Drafted.{Drafted}
use Rattle.ts_docs.specs.declared.parsed.Pages.{Pages}
use Rattle.ts_script.specs.declared.plan.Plan.{Plan}
use Rattle.ts_replies.specs.declared.reply.Reply.{Reply}
use Rattle.spec_history.specs.Histories.{JournalEntry, History, version_text}

-- an accepted edit, without the version that it made
abbrev pub journal_entry_of : Entry Drafted → JournalEntry
journal_entry_of e = record { turn = e.turn; client = e.item.client; step = e.item.step }

-- the accepted edits of a journal
abbrev pub journal_of : Pages → List JournalEntry
journal_of b = map journal_entry_of b.entries

-- A document was opened with the text, and the version of each entry has the text that the edits up
-- to it make of that one. The grammar is that by which they were parsed.
pub record TellsTexts (plan : Plan) (g : FlatGrammar) (opening : Bytes) (b : Pages)
    : Type 0 where
  pub opening_is : b.opening.text ≡ opening
  pub grammar_is : b.opening.table.grammar ≡ g
  pub texts_are : (number : ℕ) (e : Entry Drafted) → slice_get b.entries number ≡ Some e
      → e.item.version.text ≡ version_text plan opening (journal_of b) (suc number)

-- the run is one that left these journals and these replies
pub record IsHistoryOf (h : History) (books : List Pages) (replies : List (List Reply))
    : Type 0 where
  pub documents : length h.openings ≡ length books
  pub texts : (document : ℕ) (opening : Bytes) (b : Pages)
      → slice_get h.openings document ≡ Some opening → slice_get books document ≡ Some b
      → TellsTexts h.plan h.grammar opening b
  pub journals_are : h.journals ≡ map journal_of books
  pub replies_are : h.replies ≡ replies
