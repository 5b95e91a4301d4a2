-- What entries that were seen tell of versions.
use Rattle.std.specs.Prelude.{ℕ, List, map, take}
use Rattle.ts_shelf.specs.declared.journal.Entry.{Entry}
use Rattle.ts_shelf.specs.Latest.{latest_of}
use Rattle.ts_docs.specs.declared.parsed.ParsedText.{ParsedText}
use Rattle.ts_docs.specs.declared.parsed.Drafted.{Drafted}
use Rattle.spec_history.specs.Histories.{JournalEntry}
use Rattle.spec_history.specs.Books.{journal_entry_of}

-- the accepted edits among the entries that were seen
abbrev pub journal_seen : List (Entry Drafted) → List JournalEntry
journal_seen seen = map journal_entry_of seen

-- the version of this number of a document that was opened with this one, where these entries were
-- seen
abbrev pub version_seen : ParsedText → List (Entry Drafted) → ℕ → ParsedText
version_seen opening seen number =
    latest_of (λ (d : Drafted). d.version) opening (take number seen)
