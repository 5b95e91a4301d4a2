-- A table of what items take.
use Rattle.std.specs.Prelude.{◌≡◌, ℕ, List, Some, Bool, true, length, slice_get}
use Rattle.std.specs.List.{Contains}
use Rattle.spec_matches.specs.declared.found.Capture.{Capture}

-- the item at a number takes the sibling at a place with these captures, in a table of items,
-- siblings and ways
pub record Takes (table : List (List (List (List (List Capture))))) (k o p : ℕ) (c : List Capture)
    : Type 0 where
  pub rows : List (List (List (List Capture)))
  pub are_rows : slice_get table k ≡ Some rows
  pub row : List (List (List Capture))
  pub is_row : slice_get rows o ≡ Some row
  pub ways : List (List Capture)
  pub are_ways : slice_get row p ≡ Some ways
  pub one : Contains ways c

-- some ways capture nothing
abbrev pub AreSilentWays : List (List Capture) → Type 0
AreSilentWays ways = (c : List Capture) → Contains ways c → length c ≡ 0

-- .. nor do those of each sibling in a row
abbrev pub IsSilentRow : List (List (List Capture)) → Type 0
IsSilentRow row = (ways : List (List Capture)) → Contains row ways → AreSilentWays ways

-- .. nor those of each of some rows
abbrev pub AreSilentRows : List (List (List (List Capture))) → Type 0
AreSilentRows rows = (row : List (List (List Capture))) → Contains rows row → IsSilentRow row

-- the items of a table that are marked capture nothing
abbrev pub AreSilent : List (List (List (List (List Capture)))) → List Bool → Type 0
AreSilent table silent = (k : ℕ) (rows : List (List (List (List Capture))))
    → slice_get silent k ≡ Some true → slice_get table k ≡ Some rows → AreSilentRows rows
