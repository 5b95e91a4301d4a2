-- Sets of numbers, as the bits of words of 64 bits.
use Rattle.std.specs.Prelude.{◌≡◌, ℕ, ◌/◌, ◌%◌, ◌<◌, ◌≤◌, ◌^◌, List, length, slice_index_or, All}
use Rattle.std.specs.Int.{bit_at}
use Rattle.ts_bits.specs.declared.set.BitSet.{BitSet}

-- the number is a place of a 1 in these words
abbrev pub Marked : List ℕ → ℕ → Type 0
Marked words t = bit_at (slice_index_or words (t / 64) 0) (t % 64) ≡ 1

-- the number is in the set
abbrev pub Has : BitSet → ℕ → Type 0
Has s t = Marked s.words.items t

-- the number is the least of the set from the given one on
abbrev pub IsNext : BitSet → ℕ → ℕ → Type 0
IsNext s from t = (from ≤ t) × Has s t × ((u : ℕ) → from ≤ u → u < t → Has s u → ⊥)

-- the set is held in so many words
pub record IsWide (n : ℕ) (s : BitSet) : Type 0 where
  pub words : length s.words.items ≡ n
  pub small : All (λ w. w < 2 ^ 64) s.words.items
