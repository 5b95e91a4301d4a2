-- The journal of a document.
use Rattle.std.specs.Prelude.{ℕ, List, All}
use Rattle.ts_shelf.specs.declared.journal.Entry.{Entry}
use Rattle.ts_docs.specs.declared.parsed.ParsedText.{ParsedText}
use Rattle.ts_docs.specs.declared.parsed.Drafted.{Drafted}
use Rattle.ts_docs.specs.declared.parsed.Pages.{Pages}
use Rattle.ts_docs.specs.declared.book.Accepted.{Accepted}
use Rattle.ts_docs.specs.Versions.{IsFreshVersion, IsOfTable, drafted}

-- a journal of these parts
abbrev pub pages : ParsedText → List (Entry Drafted) → ℕ → Pages
pages opening entries room = record { opening = opening; entries = entries; room = room }

-- an accepted edit, as the entry of a journal
abbrev pub as_entry : Accepted → Entry Drafted
as_entry a = record { turn = a.turn; item = drafted a.client a.step a.version }

-- what holds of each journal: all its texts are versions, of one table
pub record AreVersions (b : Pages) : Type 0 where
  pub first : IsFreshVersion b.opening
  pub others : All (λ (e : Entry Drafted). IsFreshVersion e.item.version) b.entries
  pub fit : All (λ (e : Entry Drafted). IsOfTable b.opening e.item) b.entries
