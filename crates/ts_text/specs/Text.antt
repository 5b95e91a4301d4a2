-- Texts, as lists of bytes.
use Rattle.std.specs.Prelude.{ℕ, ◌≤◌, length}
use Rattle.std.specs.Str.{IsUtf8, IsValidUpTo}
use Rattle.ts_base.specs.Bytes.{Bytes}

-- the most bytes that a text has: 1 MiB
abbrev pub most_bytes : ℕ
most_bytes = 1048576

-- the bytes are those of a text
pub record IsText (bytes : Bytes) : Type 0 where
  pub utf8 : IsUtf8 bytes
  pub within : length bytes ≤ most_bytes

-- the bytes are few enough and no UTF-8; the first n of them are the longest prefix that is
pub record BreaksAt (bytes : Bytes) (n : ℕ) : Type 0 where
  pub within : length bytes ≤ most_bytes
  pub breaks : IsValidUpTo bytes n
