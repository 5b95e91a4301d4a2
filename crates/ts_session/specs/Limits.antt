-- How much is read of each file.
use Rattle.std.specs.Prelude.{ℕ}
use Rattle.ts_text.specs.Text.{most_bytes}

-- the most bytes that are read of a grammar file or a language file: 64 MiB
abbrev pub most_file_bytes : ℕ
most_file_bytes = 67108864

-- the most bytes that a text has
abbrev pub most_text_bytes : ℕ
most_text_bytes = most_bytes
