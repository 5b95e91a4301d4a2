-- A string after one more byte, for private clauses and proofs.
use Rattle.ts_base.specs.Bytes.{Bytes}
use Rattle.ts_ojson.specs.declared.escape.Escape.{Escape}

-- it goes on, with so much of an escape and these characters, or its quote was read
pub data Piece : Type 0 where
  reading : Escape → Bytes → Piece
  finished : Bytes → Piece
