-- Keys at one place by numbers.
use Rattle.std.specs.Prelude.{◌≡◌, ℕ, ◌+◌, ◌*◌, ◌^◌, ◌<◌, ◌≤◌, ◌⊎◌, suc, Option, Some, None}
use Rattle.ts_reductions.specs.declared.batch.Batch.{Batch}
use Rattle.ts_places.specs.declared.seeking.First.{First}
use Rattle.ts_places.specs.declared.seeking.First.TheVariants.{Unknown, Nothing, Is}

-- the number of a key among those at its place, where ranks are small: a later key has a lower one
abbrev pub turn_of : ℕ → ℕ → ℕ
turn_of begins rank = begins * 2 ^ 32 + rank

-- one more than the number of a key, and 0 where there is none
abbrev pub past : Option Batch → ℕ
past None = 0
past (Some k) = suc (turn_of k.begins k.rank)

-- the first key has this turn, or one past it
abbrev pub HasTurnFrom : ℕ → First → Type 0
HasTurnFrom below Unknown = ⊥
HasTurnFrom below Nothing = ⊥
HasTurnFrom below (Is k) = below ≤ turn_of k.begins k.rank

-- the earlier of two keys, the one that was found where both are at one turn
pub record IsEarlier (found key new : Batch) : Type 0 where
  pub more : turn_of found.begins found.rank ≤ turn_of new.begins new.rank
  pub own : turn_of key.begins key.rank ≤ turn_of new.begins new.rank
  pub each : (new ≡ found) ⊎ (new ≡ key)

-- The earlier of a key and one that was found. A key from the turn on counts for nothing.
pub record IsSooner (below : ℕ) (found : Option Batch) (key : Batch) (new : Option Batch)
    : Type 0 where
  pub more : past found ≤ past new
  pub own : turn_of key.begins key.rank < below → turn_of key.begins key.rank < past new
  pub each : (k : Batch) → new ≡ Some k
      → (found ≡ Some k) ⊎ ((k ≡ key) × (turn_of key.begins key.rank < below))
