-- Lists for each of some symbols.
use Rattle.std.specs.Prelude.{◌≡◌, ℕ, List, length, slice_get, Some, ◌↔◌, ◌⊎◌}
use Rattle.std.specs.Global.{Vec}
use Rattle.std.specs.List.{Contains}

-- the item is in the list at this place
pub record RowHas {X : Type 0} (rows : List (Vec X)) (y : ℕ) (x : X) : Type 0 where
  pub row : Vec X
  pub at : slice_get rows y ≡ Some row
  pub has : Contains row.items x

-- the lists have what they had, and these items
pub record Puts {X : Type 0} (P : ℕ → X → Type 0) (old new : List (Vec X)) : Type 0 where
  pub count : length new ≡ length old
  pub members : (y : ℕ) (x : X) → RowHas new y x ↔ (RowHas old y x ⊎ P y x)

-- one of the list gives this item for this place
pub record FromOne {A X : Type 0} (P : A → ℕ → X → Type 0) (from : List A) (y : ℕ)
    (x : X) : Type 0 where
  pub by : A
  pub there : Contains from by
  pub gives : P by y x
