-- What the items of a pattern take.
use Rattle.std.specs.Prelude.{◌≡◌, ℕ, zero, suc, ◌-◌, List, [], ◌∷◌, ◌++◌, map, length, Option, Some, None, slice_get, Bool, true, false}
use Rattle.std.specs.List.{Contains}
use Rattle.spec_trees.specs.declared.visible.VisibleNode.{VisibleNode}
use Rattle.ts_query_syntax.specs.declared.read_query.QueryKind.{QueryKind}
use Rattle.ts_query_syntax.specs.declared.read_query.Test.{Test}
use Rattle.ts_query_syntax.specs.declared.read_query.Test.TheVariants.{Any, Named, Kind, Choice, Round}
use Rattle.ts_query_syntax.specs.declared.read_query.Quantity.{Quantity}
use Rattle.ts_query_syntax.specs.declared.read_query.Quantity.TheVariants.{One, Optional, Many, Several}
use Rattle.ts_query_syntax.specs.declared.read_query.Item.{Item}
use Rattle.ts_query_syntax.specs.declared.read_query.Item.TheOpen.{Item-F}
use Rattle.ts_query_syntax.specs.declared.read_query.Item.TheFolds.{fold-Item}
use Rattle.spec_matches.specs.declared.found.Capture.{Capture}
use Rattle.spec_matches.specs.declared.placing.Slot.{Slot}
use Rattle.spec_matches.specs.declared.placing.Run.{Run}
use Rattle.spec_matches.specs.declared.placing.Placing.{Placing}
use Rattle.spec_matches.specs.declared.scene.Scene.{Scene}
use Rattle.spec_matches.specs.Embedding.{Full, GivesCaptures, IsWayFrom}
use Rattle.spec_matches.specs.Siblings.{AreChildren, nameds}

-- ---- what an item asks beside its test

-- an item of this quantity may take nothing
abbrev pub is_optional : Quantity → Bool
is_optional One = false
is_optional Optional = true
is_optional Many = true
is_optional Several = false

-- an item of this quantity may take more than one round
abbrev pub is_many : Quantity → Bool
is_many One = false
is_many Optional = false
is_many Many = true
is_many Several = true

-- how many siblings a round takes beside the first: of a group one for each part, else one
abbrev pub more_of : Test → ℕ → ℕ
more_of Any parts = 0
more_of Named parts = 0
more_of (Kind kind) parts = 0
more_of Choice parts = 0
more_of Round parts = parts - 1

-- an item but for its parts
pub record Head : Type 0 where
  pub slot : Slot
  pub field : Option ℕ
  pub captures : List ℕ
  pub test : Test
  pub without : List ℕ
  pub closed : Bool

-- an item with its parts, and lists of items, as data of one kind
pub data Shape : Type 0 where
  end : Shape
  more : Shape → Shape → Shape
  item : Head → Shape → Shape

-- some shapes as a list of items
abbrev pub all_of : List Shape → Shape
all_of [] = end
all_of (s ∷ ss) = more s (all_of ss)

-- an item but for its parts, which are so many
abbrev pub head_by : {X : Type 0} → Item-F X → Head
head_by x = record {
  slot = record {
    tied = x.tied;
    optional = is_optional x.quantity;
    many = is_many x.quantity;
    more = more_of x.test (length x.parts);
  };
  field = x.field;
  captures = x.captures;
  test = x.test;
  without = x.without;
  closed = x.closed;
}

-- the shape of an item, from those of its parts
abbrev pub shape_step : Item-F Shape → Shape
shape_step x = item (head_by x) (all_of x.parts)

-- the shape of an item
abbrev pub shape_of : Item → Shape
shape_of = fold-Item Shape shape_step

-- the shape of a list of items
abbrev pub shapes_of : List Item → Shape
shapes_of is = all_of (map shape_of is)

-- the slots of a list of items
abbrev pub slots_of : Shape → List Slot
slots_of end = []
slots_of (more i is) = slots_of i ++ slots_of is
slots_of (item h parts) = h.slot ∷ []

-- ---- what an item asks of a node, which is told by its number

-- the node has the field that is asked for
abbrev pub IsField : Option ℕ → VisibleNode → Type 0
IsField None node = Unit {0}
IsField (Some field) node = Contains node.fields field

-- the node is of the kind of this number
abbrev pub IsOfKind : List QueryKind → ℕ → VisibleNode → Type 0
IsOfKind kinds k node =
    (kind : QueryKind) × (slice_get kinds k ≡ Some kind)
    × (node.name ≡ kind.name) × (node.named ≡ kind.named)

-- a node under each of these captures
abbrev pub captured : List ℕ → ℕ → VisibleNode → List Capture
captured names n node =
    map (λ name. record { node = n; name = name; start = node.start; end = node.end }) names

-- none of some nodes has one of these fields
abbrev pub NoneHas : List VisibleNode → List ℕ → List ℕ → Type 0
NoneHas nodes without numbers =
    (n field : ℕ) (node : VisibleNode) → Contains numbers n → slice_get nodes n ≡ Some node
    → Contains without field → Contains node.fields field → ⊥

-- What items take: an item by its number, the place in its round, a node by its number, and the
-- captures of the nodes taken.
abbrev pub Taking : Type 1
Taking = ℕ → ℕ → ℕ → List Capture → Type 0

-- the same, of siblings by their places
abbrev pub On : Taking → List ℕ → Taking
On takes siblings k o p c = (n : ℕ) × (slice_get siblings p ≡ Some n) × takes k o n c

-- a full embedding of items in siblings, with its captures
pub record Fully (takes : Taking) (slots : List Slot) (closed : Bool) (nodes : List VisibleNode)
    (siblings : List ℕ) (c : List Capture) : Type 0 where
  pub runs : List (Option Run)
  pub full : Full (On takes siblings) (nameds nodes siblings) closed slots 0 0 true runs
  pub gives : GivesCaptures (On takes siblings) slots 0 runs c

-- the parts of an item embed in a node's children
pub record Inside (scene : Scene) (takes : Taking) (slots : List Slot) (h : Head) (n : ℕ)
    (c : List Capture) : Type 0 where
  pub children : List ℕ
  pub are_children : AreChildren scene.nodes n children
  pub none_has : NoneHas scene.nodes h.without children
  pub fully : Fully takes slots h.closed scene.nodes children c

-- a node is as the test of an item asks, and these are the captures inside
abbrev pub PassesTest : Scene → Taking → List Slot → Head → Test → ℕ → VisibleNode → List Capture
    → Type 0
PassesTest scene takes slots h Any n node c = c ≡ []
PassesTest scene takes slots h Named n node c = (node.named ≡ true) × Inside scene takes slots h n c
PassesTest scene takes slots h (Kind kind) n node c =
    IsOfKind scene.kinds kind node × Inside scene takes slots h n c
PassesTest scene takes slots h Choice n node c = (k : ℕ) × takes k 0 n c
PassesTest scene takes slots h Round n node c = ⊥

-- an item that is no group takes a node
pub record Plainly (scene : Scene) (takes : Taking) (slots : List Slot) (h : Head) (n : ℕ)
    (c : List Capture) : Type 0 where
  pub node : VisibleNode
  pub is_node : slice_get scene.nodes n ≡ Some node
  pub field : IsField h.field node
  pub inner : List Capture
  pub captures : c ≡ captured h.captures n node ++ inner
  pub passes : PassesTest scene takes slots h h.test n node inner

-- an item takes a node at a place in its round: a group by the part of that place
abbrev pub InRound : Scene → Taking → List Slot → Head → Test → Taking
InRound scene takes slots h Round k o n c = takes o 0 n c
InRound scene takes slots h Any k o n c = (o ≡ 0) × Plainly scene takes slots h n c
InRound scene takes slots h Named k o n c = (o ≡ 0) × Plainly scene takes slots h n c
InRound scene takes slots h (Kind kind) k o n c = (o ≡ 0) × Plainly scene takes slots h n c
InRound scene takes slots h Choice k o n c = (o ≡ 0) × Plainly scene takes slots h n c

-- what a list of items takes
abbrev pub TakenByItems : Scene → Shape → Taking
TakenByItems scene end k o n c = ⊥
TakenByItems scene (more i is) zero o n c = TakenByItems scene i 0 o n c
TakenByItems scene (more i is) (suc k) o n c = TakenByItems scene is k o n c
TakenByItems scene (item h parts) k o n c =
    InRound scene (TakenByItems scene parts) (slots_of parts) h h.test k o n c

-- a way in which some items fully embed in some siblings
abbrev pub Embedded : Scene → List Item → Bool → List ℕ → Placing → Type 0
Embedded scene is closed siblings f =
    IsWayFrom (On (TakenByItems scene (shapes_of is)) siblings) (nameds scene.nodes siblings) closed
    (slots_of (shapes_of is)) 0 0 true f
