-- Lists of sets of tokens, one for each symbol.
use Rattle.std.specs.Prelude.{◌≡◌, ℕ, ◌<◌, List, ◌++◌, length, slice_get, Some, ◌↔◌, ◌⊎◌}
use Rattle.std.specs.List.{Contains}
use Rattle.ts_bits.specs.declared.set.BitSet.{BitSet}
use Rattle.ts_bits.specs.Members.{Has, IsWide}

-- the token is in the set at this place
pub record HasAt (sets : List BitSet) (y t : ℕ) : Type 0 where
  pub set : BitSet
  pub at : slice_get sets y ≡ Some set
  pub has : Has set t

-- each set is held in so many words
abbrev pub AreWide : ℕ → List BitSet → Type 0
AreWide n sets = (y : ℕ) (s : BitSet) → slice_get sets y ≡ Some s → IsWide n s

-- the sets have what they had, and these tokens
pub record GainsTokens (P : ℕ → ℕ → Type 0) (old new : List BitSet) : Type 0 where
  pub count : length new ≡ length old
  pub members : (y t : ℕ) → HasAt new y t ↔ (HasAt old y t ⊎ ((y < length old) × P y t))
  pub wide : (n : ℕ) → AreWide n old → AreWide n new

-- the set at this place gained nothing
abbrev pub GainsNothing : List BitSet → List BitSet → ℕ → Type 0
GainsNothing old new y = (t : ℕ) → HasAt new y t → HasAt old y t

-- the queue goes on with places, and has each of those whose set gained a token
pub record QueuesGains (old new : List BitSet) (queue longer : List ℕ) : Type 0 where
  pub more : List ℕ
  pub is : longer ≡ queue ++ more
  pub inside : (y : ℕ) → Contains more y → y < length old
  pub told : (y : ℕ) → Contains more y ⊎ GainsNothing old new y
