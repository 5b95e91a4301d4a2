-- How far two texts are the same; for private clauses and proofs alone.
use Rattle.std.specs.Prelude.{ℕ, ◌≡◌, ◌<◌, ◌≤◌, ◌+◌, length, take}
use Rattle.ts_base.specs.Bytes.{Bytes}

-- the two have the same bytes up to a place, and so they have so many bytes farther on
pub record IsSameTo (one other : Bytes) (place count : ℕ) : Type 0 where
  pub some : 0 < count
  pub within : place + count ≤ length one
  pub same : take place one ≡ take place other → take (place + count) one ≡ take (place + count) other
