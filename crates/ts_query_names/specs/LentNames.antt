-- Names and kinds that are lent, as the code has them.
use Rattle.std.specs.Prelude.{Bool, List, map}
use Rattle.std.specs.Borrow.{Bor}
use Rattle.ts_base.specs.Bytes.{Bytes}
use Rattle.ts_query_names.specs.Mentions.{KindName}

-- the names themselves
abbrev pub told : List (Bor Bytes) → List Bytes
told = map (λ (name : Bor Bytes). name.now)

-- a kind itself
abbrev pub kind_told : Bor Bytes × Bool → KindName
kind_told entry = (entry.0.now, entry.1)

-- the kinds themselves
abbrev pub kinds_told : List (Bor Bytes × Bool) → List KindName
kinds_told = map kind_told
