-- Texts in pieces; for the views and the invariants of types, private clauses and proofs alone.
use Rattle.std.specs.Prelude.{ℕ, ◌≡◌, ◌≤◌, ◌<◌, ◌-◌, ◌+◌, ◌++◌, List, All, length, take, drop, flat_map, slice_get, Some}
use Rattle.std.specs.Str.{IsUtf8, IsCharBoundary}
use Rattle.ts_base.specs.Bytes.{Bytes}
use Rattle.ts_text.specs.declared.piece.Piece.{Piece}
use Rattle.ts_text.specs.Text.{most_bytes}

-- the bytes of pieces, one behind the other
abbrev pub bytes_of : List Piece → Bytes
bytes_of pieces = flat_map (λ (piece : Piece). piece.content) pieces

-- a piece has whole characters, and one at least
pub record IsPiece (piece : Piece) : Type 0 where
  pub some : 0 < length piece.content
  pub utf8 : IsUtf8 piece.content

-- each piece begins where those before it end
abbrev pub AreInTurn : List Piece → Type 0
AreInTurn pieces = (k : ℕ) (piece : Piece) → slice_get pieces k ≡ Some piece
    → piece.start ≡ length (bytes_of (take k pieces))

-- the pieces are those of a text of so many bytes
pub record StandFor (pieces : List Piece) (len : ℕ) : Type 0 where
  pub each : All IsPiece pieces
  pub in_turn : AreInTurn pieces
  pub whole : len ≡ length (bytes_of pieces)
  pub within : len ≤ most_bytes

-- what is left of a piece, and the pieces behind it
pub record IsRest (head : Bytes) (later : List Piece) : Type 0 where
  pub utf8 : IsUtf8 head
  pub each : All IsPiece later

-- the k-th piece is the last that begins at the place or before it
pub record IsPieceAt (pieces : List Piece) (place k : ℕ) : Type 0 where
  pub within : k < length pieces
  pub begins : length (bytes_of (take k pieces)) ≤ place
  pub next : k + 1 < length pieces → place < length (bytes_of (take (k + 1) pieces))

-- the places lie in the piece, in their order, and neither inside a character
pub record IsPartOfPiece (piece : Piece) (from to : ℕ) : Type 0 where
  pub begins : piece.start ≤ from
  pub ordered : from ≤ to
  pub from_on : IsCharBoundary piece.content (from - piece.start)
  pub to_on : IsCharBoundary piece.content (to - piece.start)

-- the place's piece is one of those from the number low on, below the number high
pub record IsBetween (pieces : List Piece) (place low high : ℕ) : Type 0 where
  pub some : low < high
  pub within : high ≤ length pieces
  pub begins : length (bytes_of (take low pieces)) ≤ place
  pub next : high < length pieces → place < length (bytes_of (take high pieces))

-- the place, if it is not the last one, lies in the k-th piece, and not inside a character
pub record IsFar (pieces : List Piece) (last place k : ℕ) : Type 0 where
  pub within : place ≤ last
  pub on : IsCharBoundary (bytes_of pieces) place
  pub at : place < last → IsPieceAt pieces place k

-- what is left behind so many bytes of a head and of the pieces behind it is what is left of a
-- rest behind so many of its bytes
pub record IsPast (rest : Bytes) (whole : ℕ) (head : Bytes) (later : List Piece) (count : ℕ) : Type 0 where
  pub is_rest : IsRest head later
  pub on : IsCharBoundary (head ++ bytes_of later) count
  pub bytes : drop count (head ++ bytes_of later) ≡ drop whole rest

-- of the first bytes of a rest some are there, and so many of what is left are wanting
pub record IsJoined (rest : Bytes) (count : ℕ) (made left : Bytes) (wanting : ℕ) : Type 0 where
  pub on : IsCharBoundary left wanting
  pub bytes : made ++ take wanting left ≡ take count rest
