-- What a folder and a sink mean.
use Rattle.std.specs.Prelude.{◌≡◌, ℕ, ◌+◌, ◌-◌, ◌^◌, ◌≤◌, min, List, [], ◌∷◌, ◌++◌, take, length}
use Rattle.std.specs.Prelude.{Option, Some, None, option_map, if◌then◌else◌}
use Rattle.std.specs.Str.{bytes_eq}
use Rattle.ts_base.specs.Bytes.{Bytes}

-- the last value of a u64, where a count stays
abbrev pub last_count : ℕ
last_count = 2 ^ 64 - 1

-- the next count, which stays at the last one
abbrev pub next_of : ℕ → ℕ
next_of count = min (count + 1) last_count

-- A count of faults has risen. One that stands at the last count counts as risen.
abbrev pub Rose : ℕ → ℕ → Type 0
Rose before now = next_of before ≤ now

-- files in their order, each a path and its bytes
abbrev pub Files : Type 0
Files = List (Bytes × Bytes)

-- the bytes at a path: those of the first file with that path
abbrev pub file_at : Files → Bytes → Option Bytes
file_at [] path = None
file_at (file ∷ files) path = if bytes_eq file.0 path then Some file.1 else file_at files path

-- Where a sink tells its bytes, the new ones are the old ones and then these.
abbrev pub Appends : Option Bytes → Option Bytes → Bytes → Type 0
Appends old new bytes = new ≡ option_map (λ taken. taken ++ bytes) old

-- The same for some prefix of the bytes.
pub record AppendsPrefix (old new : Option Bytes) (bytes : Bytes) : Type 0 where
  pub count : ℕ
  pub within : count ≤ length bytes
  pub prefix : Appends old new (take count bytes)
