-- What is printed of journals and replies, whatever the run is that left them. It serves proofs
-- alone.
use Rattle.std.specs.Prelude.{◌≡◌, ℕ, suc, List, [], ◌∷◌, ◌++◌}
use Rattle.ts_base.specs.Bytes.{Bytes}
use Rattle.ts_core.specs.declared.flat.FlatGrammar.{FlatGrammar}
use Rattle.ts_shelf.specs.declared.journal.Entry.{Entry}
use Rattle.ts_replies.specs.declared.reply.Head.{Head}
use Rattle.ts_replies.specs.declared.reply.Head.TheVariants as head
use Rattle.ts_replies.specs.declared.reply.Reply.{Reply}
use Rattle.ts_replies.specs.Replies.{reply_line}
use Rattle.ts_docs.specs.Books.{as_entry}
use Rattle.ts_docs.specs.declared.book.Accepted.{Accepted}
use Rattle.ts_docs.specs.declared.parsed.ParsedText.{ParsedText}
use Rattle.ts_docs.specs.declared.parsed.Drafted.{Drafted}
use Rattle.ts_docs.specs.declared.parsed.Pages.{Pages}
use Rattle.spec_history.specs.Books.{IsHistoryOf}
use Rattle.spec_history.specs.Histories.{History}
use Rattle.spec_history.specs.Printed.{TellsEach, IsVersionLine, IsPrinted}
use Rattle.ts_transcript.specs.declared.line.RunLine.{RunLine}
use Rattle.ts_transcript.specs.declared.line.RunLine.TheVariants as line

-- what the line of an accepted edit begins with, where so many are before it
abbrev pub entry_head : ℕ → ℕ → Entry Drafted → Head
entry_head document number e =
    head.Accepted e.item.client document e.item.step e.turn (suc number)

-- the line of a version, if the grammar is the one by which it was parsed
abbrev pub TellsVersion : FlatGrammar → Head → ParsedText → Bytes → Type 0
TellsVersion g head v line = v.table.grammar ≡ g → IsVersionLine g head v.text line

-- the line of the version with which a document was opened
abbrev pub TellsOpening : FlatGrammar → ℕ → Pages → Bytes → Type 0
TellsOpening g document b line = TellsVersion g (head.Opening document) b.opening line

-- the line of an accepted edit
abbrev pub TellsEntry : FlatGrammar → ℕ → ℕ → Entry Drafted → Bytes → Type 0
TellsEntry g document number e line =
    TellsVersion g (entry_head document number e) e.item.version line

-- the same of an accepted edit as a journal keeps it
abbrev pub TellsAccepted : FlatGrammar → ℕ → ℕ → Accepted → Bytes → Type 0
TellsAccepted g document number a line = TellsEntry g document number (as_entry a) line

-- the line of an accepted edit, by the grammar of its document
abbrev pub IsEntryLine : FlatGrammar → ℕ → ℕ → Entry Drafted → Bytes → Type 0
IsEntryLine g document number e line =
    IsVersionLine g (entry_head document number e) e.item.version.text line

-- the lines of a document's accepted edits, if the grammar is that of the document
abbrev pub TellsJournal : FlatGrammar → ℕ → Pages → Bytes → Type 0
TellsJournal g document b lines = b.opening.table.grammar ≡ g
    → TellsEach (IsEntryLine g document) b.entries lines

-- the line of the reply to a step of a client
abbrev pub TellsReply : ℕ → ℕ → Reply → Bytes → Type 0
TellsReply client step answer line = line ≡ reply_line client step answer

-- what is printed of each run that left these journals and replies, by this grammar
abbrev pub TellsRun : FlatGrammar → List Pages → List (List Reply) → Bytes → Type 0
TellsRun g books replies bytes = (h : History) → h.grammar ≡ g → IsHistoryOf h books replies
    → IsPrinted h bytes

-- ---- lines before their bytes are made

-- the bytes of a line
abbrev pub TellsLine : FlatGrammar → RunLine → Bytes → Type 0
TellsLine g (line.Version head version) bytes = TellsVersion g head version.now bytes
TellsLine g (line.Reply client step answer) bytes = TellsReply client step answer.now bytes

-- the bytes of these lines, one after another
abbrev pub AreLines : FlatGrammar → List RunLine → Bytes → Type 0
AreLines g [] bytes = bytes ≡ []
AreLines g (l ∷ ls) bytes = (first : Bytes) × (others : Bytes) × TellsLine g l first
    × AreLines g ls others × (bytes ≡ first ++ others)

-- lines were added at the end, whose bytes tell so by each grammar
pub record AddsLines (Tells : FlatGrammar → Bytes → Type 0) (before after : List RunLine) : Type 0
  where
    pub added : List RunLine
    pub tell : (g : FlatGrammar) (bytes : Bytes) → AreLines g added bytes → Tells g bytes
    pub after_is : after ≡ before ++ added
