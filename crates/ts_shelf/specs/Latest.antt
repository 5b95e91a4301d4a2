-- What a journal shows.
use Rattle.std.specs.Prelude.{List, [], ◌∷◌}
use Rattle.ts_shelf.specs.declared.journal.Entry.{Entry}

-- what the last entry's item is shown as, or the opening where there are no entries
abbrev pub latest_of : {S I : Type 0} → (I → S) → S → List (Entry I) → S
latest_of shown_of opening [] = opening
latest_of shown_of opening (e ∷ es) = latest_of shown_of (shown_of e.item) es
