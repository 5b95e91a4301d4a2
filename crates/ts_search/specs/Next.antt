-- Where items take siblings next.
use Rattle.std.specs.Prelude.{◌≡◌, ℕ, ◌<◌, ◌≤◌, ◌⊎◌, List, [], Some, Bool, true, length, slice_get}
use Rattle.std.specs.List.{Contains}
use Rattle.spec_matches.specs.declared.found.Capture.{Capture}
use Rattle.ts_search.specs.Table.{Takes}

-- captures are asked for: any, or those that are not empty
abbrev pub Counts : Bool → List Capture → Type 0
Counts capturing c = capturing ≡ true → length c ≡ 0 → ⊥

-- a row takes the sibling at a place with captures that are asked for
abbrev pub TakesIn : List (List (List Capture)) → Bool → ℕ → Type 0
TakesIn row capturing p =
    (c : List Capture) × (ways : List (List Capture)) × (slice_get row p ≡ Some ways)
    × Contains ways c × Counts capturing c

-- .. the first of some rows
abbrev pub TakesOf : List (List (List (List Capture))) → Bool → ℕ → Type 0
TakesOf rows capturing p =
    (row : List (List (List Capture))) × (slice_get rows 0 ≡ Some row) × TakesIn row capturing p

-- .. an item, as the first of a round
abbrev pub TakesFirst : List (List (List (List (List Capture)))) → Bool → ℕ → ℕ → Type 0
TakesFirst table capturing k p = (c : List Capture) × Takes table k 0 p c × Counts capturing c

-- from a place on to another, and no place of a kind is passed
abbrev pub Passes : (ℕ → Type 0) → ℕ → ℕ → Type 0
Passes P from to = (from ≤ to) × ((p : ℕ) → from ≤ p → p < to → P p → ⊥)

-- for each place the next of a kind
abbrev pub AreNextIn : (ℕ → Type 0) → List ℕ → Type 0
AreNextIn P next = (p q : ℕ) → slice_get next p ≡ Some q → Passes P p q

-- for each item of a table and place the next where the item takes a sibling as the first of a round
abbrev pub AreNext : List (List (List (List (List Capture)))) → Bool → List (List ℕ) → Type 0
AreNext table capturing next = (k : ℕ) (places : List ℕ) → slice_get next k ≡ Some places
    → AreNextIn (TakesFirst table capturing k) places

-- what lists of next places have for an item and a place, or else that place
abbrev pub IsNextAt : List (List ℕ) → ℕ → ℕ → ℕ → Type 0
IsNextAt next k p q =
    (q ≡ p) ⊎ ((places : List ℕ) × (slice_get next k ≡ Some places)
    × (slice_get places p ≡ Some q))

-- a row takes the sibling at a place in a way that captures nothing
abbrev pub TakesSilently : List (List (List Capture)) → ℕ → Type 0
TakesSilently row p =
    (ways : List (List Capture)) × (slice_get row p ≡ Some ways) × Contains ways []
