-- Bits of one word.
use Rattle.std.specs.Prelude.{◌≡◌, ℕ, ◌<◌, ◌≤◌}
use Rattle.std.specs.Int.{bit_at}

-- the place is the first from the given one on where the word holds a 1
abbrev pub IsLowest : ℕ → ℕ → ℕ → Type 0
IsLowest word from i = (from ≤ i) × (i < 64) × (bit_at word i ≡ 1)
    × ((j : ℕ) → from ≤ j → j < i → bit_at word j ≡ 1 → ⊥)
