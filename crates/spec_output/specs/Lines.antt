-- A line that the program prints: a compact JSON object, its members in byte order, and a newline.
use Rattle.std.specs.Prelude.{ℕ, List, [], ◌∷◌, ◌++◌, map}
use Rattle.ts_base.specs.Bytes.{Bytes}
use Rattle.serde_json.specs.Data.{Data, string, number, unsigned, array, object, Members}
use Rattle.serde_json.specs.View.{items_of}
use Rattle.serde_json.specs.Written.{compact_text}

-- the byte that ends a line
abbrev pub newline : ℕ
newline = 10

-- the line of an object with these members
abbrev pub object_line : Members → Bytes
object_line members = compact_text (object members) ++ newline ∷ []

-- a number, as it is printed
abbrev pub numeral : ℕ → Data
numeral n = number (unsigned n)

-- texts, as they are printed
abbrev pub text_list : List Bytes → Data
text_list list = array (items_of (map string list))
