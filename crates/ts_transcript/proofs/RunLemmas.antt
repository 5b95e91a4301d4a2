-- What is printed of journals and replies is what is printed of the run that left them.
use Rattle.std.proofs.Common.{arith, ◌≡◌, ◌∙◌, refl, sym, ap, subst, ℕ, suc, List, [], ◌++◌, append_assoc, Some, slice_get, All}
use Rattle.std.proofs.lemmas.Option.{slice_get_within, get_or_from_slice_get, same_Some}
use Rattle.ts_base.specs.Bytes.{Bytes}
use Rattle.ts_core.specs.declared.flat.FlatGrammar.{FlatGrammar}
use Rattle.ts_table.specs.declared.view.ParseTable.{ParseTable}
use Rattle.ts_shelf.specs.declared.journal.Entry.{Entry}
use Rattle.ts_replies.specs.declared.reply.Head.{Head}
use Rattle.ts_replies.specs.declared.reply.Head.TheVariants as head
use Rattle.ts_replies.specs.declared.reply.Reply.{Reply}
use Rattle.ts_docs.specs.declared.parsed.Drafted.{Drafted}
use Rattle.ts_docs.specs.declared.parsed.Pages.{Pages}
use Rattle.ts_docs.specs.Books.{AreVersions}
use Rattle.ts_docs.specs.Versions.{IsOfTable}
use Rattle.spec_history.specs.Histories.{JournalEntry, History, version_text}
use Rattle.spec_history.specs.Books.{journal_entry_of, journal_of, TellsTexts, IsHistoryOf}
use Rattle.spec_history.specs.Printed.{TellsEach, IsVersionLine, AreOpeningLines, AreEntryLines, AreReplyLines, IsPrinted}
use Rattle.ts_transcript.specs.declared.line.RunLine.{RunLine}
use Rattle.ts_transcript.specs.Told.{AreLines, AddsLines, entry_head, TellsOpening, TellsEntry, IsEntryLine, TellsJournal, TellsRun}
use Rattle.ts_transcript.proofs.LineLemmas.{Then, added_then}
use Rattle.ts_transcript.proofs.PieceLemmas.{there_is, beside, told_mapped}

-- ---- one document

each_of : {X : Type 0} (P : X → Type 0) (xs : List X) (n : ℕ) (x : X) → All P xs → slice_get xs n ≡ Some x → P x
each_of P xs n x all is = subst P (get_or_from_slice_get xs n x x is) (all n x (slice_get_within xs n x is))

same_at : {X : Type 0} (xs : List X) (n : ℕ) (x y : X) → slice_get xs n ≡ Some x → slice_get xs n ≡ Some y → x ≡ y
same_at xs n x y a b = same_Some x y (sym a ∙ b)

-- the lines of a journal, all of whose versions were parsed by the table of the first one
pub journal_told : (g : FlatGrammar) (document : ℕ) (b : Pages) (lines : Bytes) → AreVersions b
    → TellsEach (TellsEntry g document) b.entries lines → TellsJournal g document b lines
journal_told g document b lines versions told grammar =
    beside (TellsEntry g document) (IsEntryLine g document) b.entries b.entries lines refl
    (λ n e f piece here there tells.
    let same : e ≡ f = same_at b.entries n e f here there in
    let of_table : f.item.version.table ≡ b.opening.table = each_of (λ (e : Entry Drafted). IsOfTable b.opening e.item) b.entries n f versions.fit there in
    subst (λ (d : Entry Drafted). TellsEntry g document n d piece) same tells (ap (λ (t : ParseTable). t.grammar) of_table ∙ grammar))
    told

-- ---- a run

module _ (g : FlatGrammar) (h : History) (books : List Pages) (replies : List (List Reply)) (grammar : h.grammar ≡ g) (is : IsHistoryOf h books replies) where
  texts_at : (document : ℕ) (b : Pages) → slice_get books document ≡ Some b → (text : Bytes) × (slice_get h.openings document ≡ Some text) × TellsTexts h.plan h.grammar text b
  texts_at document b here =
      let within = slice_get_within books document b here in
      let many = is.documents in
      let found = there_is h.openings document (omega (arith, within, many)) in
      (found.0, found.1, is.texts document found.0 b found.1 here)

  version_told : (head : Head) (text other line : Bytes) → text ≡ other → IsVersionLine g head text line → IsVersionLine h.grammar head other line
  version_told head text other line same told =
      subst (λ (f : FlatGrammar). IsVersionLine f head other line) (sym grammar)
      (subst (λ (t : Bytes). IsVersionLine g head t line) same told)

  openings_told : (bytes : Bytes) → TellsEach (TellsOpening g) books bytes → AreOpeningLines h.grammar h.openings bytes
  openings_told bytes told =
      beside (TellsOpening g) (λ (document : ℕ) (text line : Bytes). IsVersionLine h.grammar (head.Opening document) text line) books h.openings bytes is.documents
      (λ document b text line here there tells.
      let t = is.texts document text b there here in
      version_told (head.Opening document) b.opening.text text line t.opening_is (tells (t.grammar_is ∙ grammar)))
      told

  entries_told : (document : ℕ) (b : Pages) (lines : Bytes) → slice_get books document ≡ Some b → TellsJournal g document b lines → AreEntryLines h document (journal_of b) lines
  entries_told document b lines here tells =
      let at = texts_at document b here in
      record {
        opening = at.0;
        opening_is = at.1;
        lines_are = told_mapped (IsEntryLine g document)
            (λ (number : ℕ) (e : JournalEntry) (line : Bytes). IsVersionLine h.grammar (head.Accepted e.client document e.step e.turn (suc number)) (version_text h.plan at.0 (journal_of b) (suc number)) line)
            journal_entry_of b.entries lines
            (λ number e line there told.
            version_told (entry_head document number e) e.item.version.text (version_text h.plan at.0 (journal_of b) (suc number)) line (at.2.texts_are number e there) told)
            (tells (at.2.grammar_is ∙ grammar));
      }

  journals_told : (bytes : Bytes) → TellsEach (TellsJournal g) books bytes → TellsEach (AreEntryLines h) h.journals bytes
  journals_told bytes told =
      subst (λ (all : List (List JournalEntry)). TellsEach (AreEntryLines h) all bytes) (sym is.journals_are)
      (told_mapped (TellsJournal g) (AreEntryLines h) journal_of books bytes entries_told told)

  replies_told : (bytes : Bytes) → TellsEach AreReplyLines replies bytes → TellsEach AreReplyLines h.replies bytes
  replies_told bytes told = subst (λ (all : List (List Reply)). TellsEach AreReplyLines all bytes) (sym is.replies_are) told

  printed_of : (a b c bytes : Bytes) → TellsEach (TellsOpening g) books a → TellsEach (TellsJournal g) books b → TellsEach AreReplyLines replies c → bytes ≡ (a ++ b) ++ c
      → IsPrinted h bytes
  printed_of a b c bytes openings journals answers is_all = record {
    openings = a;
    journals = b;
    replies = c;
    openings_are = openings_told a openings;
    journals_are = journals_told b journals;
    replies_are = replies_told c answers;
    bytes_are = is_all ∙ append_assoc a b c;
  }

-- lines that were added one after another tell the run
pub run_told : (books : List Pages) (replies : List (List Reply)) (first second lines : List RunLine) → AddsLines (λ g. TellsEach (TellsOpening g) books) [] first
    → AddsLines (λ g. TellsEach (TellsJournal g) books) first second → AddsLines (λ g. TellsEach AreReplyLines replies) second lines
    → (g : FlatGrammar) (bytes : Bytes) → AreLines g lines bytes → TellsRun g books replies bytes
run_told books replies first second lines o j r g bytes are h grammar is =
    let Opened = λ (f : FlatGrammar). TellsEach (TellsOpening f) books in
    let Kept = λ (f : FlatGrammar). TellsEach (TellsJournal f) books in
    let Answered = λ (f : FlatGrammar). TellsEach AreReplyLines replies in
    let whole = added_then (Then Opened Kept) Answered [] second lines (added_then Opened Kept [] first second o j) r in
    let told = whole.tell g bytes (subst (λ (ls : List RunLine). AreLines g ls bytes) whole.after_is are) in
    let before = told.2 in
    printed_of g h books replies grammar is before.0 before.1 told.1 bytes before.2 before.3 told.3 (told.4 ∙ ap (λ (w : Bytes). w ++ told.1) before.4)
