-- What is written of a text in the making; for private clauses and proofs alone.
use Rattle.std.specs.Prelude.{ℕ, ◌≡◌, ◌≤◌, ◌++◌, List, string_bytes}
use Rattle.std.specs.List.{slice_range}
use Rattle.ts_base.specs.Bytes.{Bytes}
use Rattle.ts_text.specs.declared.piece.Piece.{Piece}
use Rattle.ts_text.specs.declared.writing.Writer.{Writer}
use Rattle.ts_text.specs.Pieces.{IsFar}

-- what comes after the pieces, and is no piece yet
abbrev pub pending_of : Writer → Bytes
pending_of writer = string_bytes writer.pending

-- the pieces' bytes, and those behind them
abbrev pub written : Writer → Bytes
written writer = writer.text ++ pending_of writer

-- what a text has from one place up to another is written behind what was there before
pub record IsWrittenTo (text before now : Bytes) (pieces : List Piece) (from to place k : ℕ) : Type 0 where
  pub far : IsFar pieces to place k
  pub above : from ≤ place
  pub bytes : now ≡ before ++ slice_range text from place
