-- Bytes, as contracts speak of them.
use Rattle.std.specs.Prelude.{ℕ, List}

-- a list of bytes, each below 256: a file, a text, a line
abbrev pub Bytes : Type 0
Bytes = List ℕ
