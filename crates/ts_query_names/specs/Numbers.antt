-- The numbers of names: their places in lists that have each name once.
use Rattle.std.specs.Prelude.{ℕ, Bool, List, unwrap_or, position}
use Rattle.std.specs.Str.{bytes_eq}
use Rattle.ts_base.specs.Bytes.{Bytes}
use Rattle.ts_query_names.specs.Kinds.{kind_eq}
use Rattle.ts_query_names.specs.Mentions.{KindName}

-- Names by their numbers: the kinds and captures of a query, and the fields of its grammar.
pub record Names : Type 0 where
  pub kinds : List KindName
  pub captures : List Bytes
  pub fields : List Bytes

-- the number of a value that is in the list
abbrev pub number_in : {X : Type 0} → (X → X → Bool) → List X → X → ℕ
number_in eq values x = unwrap_or (position (eq x) values) 0

-- the number of a kind, by its name and whether it is named
abbrev pub kind_number : Names → Bytes → Bool → ℕ
kind_number names name named = number_in kind_eq names.kinds (name, named)

-- the number of a capture
abbrev pub capture_number : Names → Bytes → ℕ
capture_number names name = number_in bytes_eq names.captures name

-- the number of a field
abbrev pub field_number : Names → Bytes → ℕ
field_number names name = number_in bytes_eq names.fields name
