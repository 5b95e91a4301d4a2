-- What an item takes, told of the item itself.
use Rattle.std.specs.Prelude.{◌≡◌, ℕ, Bool, List, [], ◌∷◌, length, Some, slice_get}
use Rattle.std.specs.List.{Contains}
use Rattle.spec_trees.specs.declared.visible.VisibleNode.{VisibleNode}
use Rattle.ts_query_syntax.specs.declared.read_query.Test.{Test}
use Rattle.ts_query_syntax.specs.declared.read_query.Test.TheVariants.{Any, Named, Kind, Choice, Round}
use Rattle.ts_query_syntax.specs.declared.read_query.Item.{Item}
use Rattle.ts_query_syntax.specs.declared.read_query.Item.TheViews.{out-Item}
use Rattle.spec_matches.specs.declared.found.Capture.{Capture}
use Rattle.spec_matches.specs.declared.placing.Slot.{Slot}
use Rattle.spec_matches.specs.declared.scene.Scene.{Scene}
use Rattle.ts_search.specs.Adding.{AreLike, Holds, Partly}
use Rattle.ts_search.specs.Sets.{SameMembers}
use Rattle.spec_matches.specs.Taking.{Head, head_by, shape_of, shapes_of, slots_of, TakenByItems, Inside, PassesTest, Plainly}

-- an item but for its parts
abbrev pub head_of : Item → Head
head_of i = head_by (out-Item i)

-- what an item asks beside its test
abbrev pub slot_of : Item → Slot
slot_of i = (head_of i).slot

-- the parts of an item
abbrev pub parts_of : Item → List Item
parts_of i = (out-Item i).parts

-- how many siblings a round takes
abbrev pub size_by : Test → ℕ → ℕ
size_by Any parts = 1
size_by Named parts = 1
size_by (Kind kind) parts = 1
size_by Choice parts = 1
size_by Round parts = parts

-- how many siblings a round of the item takes
abbrev pub size_of : Item → ℕ
size_of i = size_by (out-Item i).test (length (parts_of i))

-- what some items take
abbrev pub TakenOf : Scene → List Item → ℕ → ℕ → ℕ → List Capture → Type 0
TakenOf scene is = TakenByItems scene (shapes_of is)

-- an item takes a node at a place in its round
abbrev pub ItemTakes : Scene → Item → ℕ → ℕ → List Capture → Type 0
ItemTakes scene i o n c = TakenByItems scene (shape_of i) 0 o n c

-- a node is as the test of an item asks, and these are the captures inside
abbrev pub PassesOf : Scene → Item → Test → ℕ → VisibleNode → List Capture → Type 0
PassesOf scene i =
    PassesTest scene (TakenOf scene (parts_of i)) (slots_of (shapes_of (parts_of i))) (head_of i)

-- the parts of an item embed in a node's children with these captures
abbrev pub InsideOf : Scene → Item → ℕ → List Capture → Type 0
InsideOf scene i =
    Inside scene (TakenOf scene (parts_of i)) (slots_of (shapes_of (parts_of i))) (head_of i)

-- an item that is no group takes a node with these captures
abbrev pub PlainOf : Scene → Item → ℕ → List Capture → Type 0
PlainOf scene i =
    Plainly scene (TakenOf scene (parts_of i)) (slots_of (shapes_of (parts_of i))) (head_of i)

-- one of some items takes a node
abbrev pub AnyTakes : Scene → List Item → ℕ → List Capture → Type 0
AnyTakes scene is n c = (k : ℕ) × TakenOf scene is k 0 n c

-- a node has one of these fields
abbrev pub HasOne : List VisibleNode → List ℕ → ℕ → Type 0
HasOne nodes without n =
    (field : ℕ) × (node : VisibleNode) × (slice_get nodes n ≡ Some node)
    × Contains without field × Contains node.fields field

-- two lists of one length, whose elements agree in pairs
abbrev pub Pairs : {X Y : Type 0} → (X → Y → Type 0) → List X → List Y → Type 0
Pairs P [] [] = Unit {0}
Pairs P [] (y ∷ ys) = ⊥
Pairs P (x ∷ xs) [] = ⊥
Pairs P (x ∷ xs) (y ∷ ys) = P x y × Pairs P xs ys

-- a list whose elements agree with the numbers below a bound
pub record Numbered {Y : Type 0} (P : ℕ → Y → Type 0) (count : ℕ) (ys : List Y) : Type 0 where
  pub many : length ys ≡ count
  pub each : (k : ℕ) (y : Y) → slice_get ys k ≡ Some y → P k y

-- the ways of an item at a node, each list of captures as a set
abbrev pub AreWays : Scene → Item → ℕ → ℕ → List (List Capture) → Type 0
AreWays scene i o n ways = AreLike SameMembers (ItemTakes scene i o n) ways

-- .. at each of some siblings
abbrev pub IsRow : Scene → Item → ℕ → List ℕ → List (List (List Capture)) → Type 0
IsRow scene i o siblings row = Pairs (AreWays scene i o) siblings row

-- .. and each place in its round
abbrev pub AreRowsOf : Scene → List ℕ → Item → List (List (List (List Capture))) → Type 0
AreRowsOf scene siblings i rows = Numbered (λ o row. IsRow scene i o siblings row) (size_of i) rows

-- .. of each of some items
abbrev pub IsTable : Scene → List ℕ → List Item → List (List (List (List (List Capture)))) → Type 0
IsTable scene siblings is table = Pairs (AreRowsOf scene siblings) is table

-- the same of some of the ways, of one at least where there are any
abbrev pub SomeWays : Scene → Item → ℕ → ℕ → List (List Capture) → Type 0
SomeWays scene i o n ways = Partly SameMembers (ItemTakes scene i o n) ways

-- some of the ways of an item at each of some siblings, for one place in its round
abbrev pub SomeRow : Scene → Item → ℕ → List ℕ → List (List (List Capture)) → Type 0
SomeRow scene i o siblings row = Pairs (SomeWays scene i o) siblings row

-- some of the ways of an item at each of some siblings, for each place in its round
abbrev pub SomeRows : Scene → List ℕ → Item → List (List (List (List Capture))) → Type 0
SomeRows scene siblings i rows = Numbered (λ o row. SomeRow scene i o siblings row) (size_of i) rows

-- some of the ways of each of some items at each of some siblings
abbrev pub SomeTable : Scene → List ℕ → List Item → List (List (List (List (List Capture))))
    → Type 0
SomeTable scene siblings is table = Pairs (SomeRows scene siblings) is table

-- .. and of all ways but for what was left out
abbrev pub HasRow : Scene → Item → ℕ → List ℕ → Bool → Bool → List (List (List Capture)) → Type 0
HasRow scene i o siblings was now row =
    Holds (SomeRow scene i o siblings row) (IsRow scene i o siblings row) was now

-- the same for each place in an item's round
abbrev pub HasRows : Scene → List ℕ → Item → Bool → Bool → List (List (List (List Capture)))
    → Type 0
HasRows scene siblings i was now rows =
    Holds (SomeRows scene siblings i rows) (AreRowsOf scene siblings i rows) was now

-- the same of each of some items
abbrev pub HasTable : Scene → List ℕ → List Item → Bool → Bool
    → List (List (List (List (List Capture)))) → Type 0
HasTable scene siblings is was now table =
    Holds (SomeTable scene siblings is table) (IsTable scene siblings is table) was now
