-- The items of a sequence and of its parts.
use Rattle.std.specs.Prelude.{◌++◌, List, [], ◌<◌, Option, Some, None, length}
use Rattle.ts_seq.specs.declared.part.Shape.{Shape}
use Rattle.ts_seq.specs.declared.part.Shape.TheVariants.{Leaf, Branch}

-- the items that a part holds, in order
abbrev pub part_items : {T : Type 0} → Shape T → List T
part_items (Leaf items) = items
part_items (Branch left right) = left ++ right

-- a leaf has an item, and a branch has one on either side
abbrev pub AreHeld : {T : Type 0} → Shape T → Type 0
AreHeld (Leaf items) = 0 < length items
AreHeld (Branch left right) = (0 < length left) × (0 < length right)

-- the items of a part that may be missing
abbrev pub items_in : {T : Type 0} → Option (List T) → List T
items_in None = []
items_in (Some items) = items
