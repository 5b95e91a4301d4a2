-- How the first line is cut off; for private clauses and proofs alone.
use Rattle.std.specs.Prelude.{◌≡◌, ◌⊎◌, []}
use Rattle.ts_base.specs.Bytes.{Bytes}
use Rattle.ts_script.specs.Lines.{BeginsWithLine, IsLastLine}

-- the bytes begin with the line and its newline, or are that line
abbrev pub CutsAt : Bytes → Bytes → Bytes → Type 0
CutsAt bytes line after =
    BeginsWithLine bytes line after ⊎ (IsLastLine bytes line × (after ≡ []))
