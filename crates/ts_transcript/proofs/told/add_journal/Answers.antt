use Rattle.std.proofs.Common.{subst, List, map}
use Rattle.std.proofs.lemmas.Result.{on_ok_weaker}
use Rattle.ts_core.specs.declared.flat.FlatGrammar.{FlatGrammar}
use Rattle.ts_shelf.specs.declared.journal.Entry.{Entry}
use Rattle.ts_docs.specs.declared.parsed.Drafted.{Drafted}
use Rattle.ts_docs.specs.Books.{as_entry}
use Rattle.spec_history.specs.Printed.{TellsEach}
use Rattle.ts_transcript.specs.Told.{AddsLines, TellsEntry, TellsJournal}
use Rattle.ts_transcript.proofs.LineLemmas.{tells_as_well}
use Rattle.ts_transcript.proofs.RunLemmas.{journal_told}
use Rattle.ts_transcript.proofs.told.add_journal.Goals as goal

pub returns : goal.returns
returns c =
    let document = c.args.document in
    let book = c.args.book.now in
    let Entered = λ (entries : List (Entry Drafted)) (g : FlatGrammar). TellsEach (TellsEntry g document) entries in
    on_ok_weaker c.add_entries.result
    (λ (added : AddsLines (Entered (map as_entry c.entries.result.now)) c.args.out.now.items c.add_entries.new.out.items).
    tells_as_well (Entered (map as_entry c.entries.result.now)) (λ g. TellsJournal g document book) c.args.out.now.items c.add_entries.new.out.items
    (λ g bytes told. journal_told g document book bytes c.stands.ensures (subst (λ (entries : List (Entry Drafted)). Entered entries g bytes) c.entries.ensures told))
    added)
    c.add_entries.ensures
