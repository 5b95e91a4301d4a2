-- Pointers into a JSON value (RFC 6901): the steps that lead from a value to one inside it.
use Rattle.std.specs.Prelude.{ℕ, [], ◌∷◌, ◌++◌, ◌==◌, if◌then◌else◌, codes}
use Rattle.std.specs.Fmt.{decimal}
use Rattle.ts_base.specs.Bytes.{Bytes}

-- a byte of a name as a pointer spells it: ~ is ~0, and / is ~1
abbrev pub escape_of : ℕ → Bytes
escape_of byte = if byte == 126 then codes "~0" else if byte == 47 then codes "~1" else byte ∷ []

-- a name as a pointer spells it
abbrev pub escaped : Bytes → Bytes
escaped [] = []
escaped (byte ∷ name) = escape_of byte ++ escaped name

-- the step to the member of this name
abbrev pub step : Bytes → Bytes
step name = 47 ∷ escaped name

-- the step to the item at this place, counted from 0
abbrev pub place : ℕ → Bytes
place k = 47 ∷ decimal k
