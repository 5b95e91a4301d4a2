-- Parts of texts, lent or copied; for the view of their type alone.
use Rattle.std.specs.Prelude.{string_bytes}
use Rattle.ts_base.specs.Bytes.{Bytes}
use Rattle.ts_text.specs.declared.sliced.Sliced.{Sliced}
use Rattle.ts_text.specs.declared.sliced.Sliced.TheVariants.{Lent, Made}

-- the bytes of the part
abbrev pub bytes_sliced : Sliced → Bytes
bytes_sliced (Lent text) = text.now
bytes_sliced (Made text) = string_bytes text
