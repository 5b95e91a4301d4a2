-- Lines that are dealt to columns, a row of one line for each column after another, with what is
-- made of each. It serves proofs alone.
use Rattle.std.specs.Prelude.{◌≡◌, ℕ, ◌+◌, ◌*◌, ◌/◌, ◌%◌, ◌<◌, List, length, slice_get, Some}
use Rattle.std.specs.Global.{Vec}
use Rattle.ts_core.specs.declared.flat.FlatGrammar.{FlatGrammar}
use Rattle.ts_transcript.specs.declared.line.RunLine.{RunLine}
use Rattle.ts_transcript.specs.Told.{TellsLine}

-- how many columns there are
abbrev pub column_count : ℕ
column_count = 64

-- the column of the line at a place of a row, and the place of the line of a column
abbrev pub dealt_to : ℕ → ℕ
dealt_to place = place % 8 * 8 + place / 8

-- the place of the line in a row of a column
abbrev pub place_in : ℕ → ℕ → ℕ
place_in column row = row * column_count + dealt_to column

-- the pieces have the bytes of the line in this row of the column, if there is one
abbrev pub TellsRow : FlatGrammar → List RunLine → ℕ → List (Vec ℕ) → ℕ → Type 0
TellsRow g lines column pieces row = (l : RunLine) → slice_get lines (place_in column row) ≡ Some l
    → (piece : Vec ℕ) × (slice_get pieces row ≡ Some piece) × TellsLine g l piece.items

-- the pieces are the bytes of the lines of a column
abbrev pub IsColumn : FlatGrammar → List RunLine → ℕ → List (Vec ℕ) → Type 0
IsColumn g lines column pieces = (row : ℕ) → TellsRow g lines column pieces row

-- there are the pieces of each column
abbrev pub AreColumns : FlatGrammar → List RunLine → List (Vec (Vec ℕ)) → Type 0
AreColumns g lines columns = (column : ℕ) → column < column_count
    → (pieces : Vec (Vec ℕ)) × (slice_get columns column ≡ Some pieces)
    × IsColumn g lines column pieces.items

-- the piece stands in the columns where the line at this place was dealt to
abbrev pub IsPieceAt : List (Vec (Vec ℕ)) → ℕ → Vec ℕ → Type 0
IsPieceAt columns place piece = (pieces : Vec (Vec ℕ))
    × (slice_get columns (dealt_to (place % column_count)) ≡ Some pieces)
    × (slice_get pieces.items (place / column_count) ≡ Some piece)

-- there is a piece for each of so many lines
abbrev pub HasPieces : List (Vec (Vec ℕ)) → ℕ → Type 0
HasPieces columns count =
    (place : ℕ) → place < count → (piece : Vec ℕ) × IsPieceAt columns place piece

-- the pieces are the bytes of the first lines of a column, up to the line at this place
pub record HasRows (g : FlatGrammar) (lines : List RunLine) (column place : ℕ)
    (pieces : List (Vec ℕ)) : Type 0 where
  pub place_is : place ≡ place_in column (length pieces)
  pub each : (row : ℕ) → row < length pieces → TellsRow g lines column pieces row
