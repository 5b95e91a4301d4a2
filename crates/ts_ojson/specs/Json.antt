-- A JSON value as plain data, and the value that an `OJson` stands for. Members keep their order.
use Rattle.std.specs.Prelude.{ℕ, suc, max, ◌≢◌, Bool, List, [], ◌∷◌, ⊤}
use Rattle.ts_base.specs.Bytes.{Bytes}
use Rattle.ts_ojson.specs.declared.value.OJson.{OJson}
use Rattle.ts_ojson.specs.declared.value.OJson.TheOpen.{OJson-F}
use Rattle.ts_ojson.specs.declared.value.OJson.TheFolds.{fold-OJson}

mutual
  -- a value: a number by its spelling, a string by the UTF-8 of its characters
  pub data Json : Type 0 where
    null : Json
    boolean : Bool → Json
    number : Bytes → Json
    string : Bytes → Json
    array : Items → Json
    object : Members → Json

  -- the items of an array, in order
  pub data Items : Type 0 where
    no_items : Items
    item : Json → Items → Items

  -- the members of an object, in order, each a name and a value
  pub data Members : Type 0 where
    no_members : Members
    member : Bytes → Json → Members → Members

-- a list of values as items
abbrev pub items_of : List Json → Items
items_of [] = no_items
items_of (j ∷ js) = item j (items_of js)

-- a list of names with their values as members
abbrev pub members_of : List (Bytes × Json) → Members
members_of [] = no_members
members_of (m ∷ ms) = member m.0 m.1 (members_of ms)

-- the value of an `OJson`, from those of the parts inside it
abbrev pub json_step : OJson-F Json → Json
json_step OJson-F.Null = null
json_step (OJson-F.Bool b) = boolean b
json_step (OJson-F.Num s) = number s
json_step (OJson-F.Text s) = string s
json_step (OJson-F.Array js) = array (items_of js)
json_step (OJson-F.Object ms) = object (members_of ms)

-- the value that an `OJson` stands for
abbrev pub json_of : OJson → Json
json_of = fold-OJson Json json_step

-- how deep arrays and objects nest
abbrev mutual
  pub depth : Json → ℕ
  depth null = 0
  depth (boolean b) = 0
  depth (number s) = 0
  depth (string s) = 0
  depth (array js) = suc (items_depth js)
  depth (object ms) = suc (members_depth ms)

  pub items_depth : Items → ℕ
  items_depth no_items = 0
  items_depth (item j js) = max (depth j) (items_depth js)

  pub members_depth : Members → ℕ
  members_depth no_members = 0
  members_depth (member k j ms) = max (depth j) (members_depth ms)

-- the names of members, in order
abbrev pub names : Members → List Bytes
names no_members = []
names (member k j ms) = k ∷ names ms

-- how deep arrays and objects may nest to be read
abbrev pub most_deep : ℕ
most_deep = 256

-- the name is none of these
abbrev pub IsNone : Bytes → List Bytes → Type 0
IsNone k [] = ⊤
IsNone k (l ∷ ls) = (k ≢ l) × IsNone k ls

-- no two of the names are equal
abbrev pub AreDistinct : List Bytes → Type 0
AreDistinct [] = ⊤
AreDistinct (k ∷ ks) = IsNone k ks × AreDistinct ks

-- no object, at any depth, has two members of one name
abbrev mutual
  pub HasDistinctNames : Json → Type 0
  HasDistinctNames null = ⊤
  HasDistinctNames (boolean b) = ⊤
  HasDistinctNames (number s) = ⊤
  HasDistinctNames (string s) = ⊤
  HasDistinctNames (array js) = ItemsHaveDistinctNames js
  HasDistinctNames (object ms) = AreDistinct (names ms) × MembersHaveDistinctNames ms

  pub ItemsHaveDistinctNames : Items → Type 0
  ItemsHaveDistinctNames no_items = ⊤
  ItemsHaveDistinctNames (item j js) = HasDistinctNames j × ItemsHaveDistinctNames js

  -- of the members' values
  pub MembersHaveDistinctNames : Members → Type 0
  MembersHaveDistinctNames no_members = ⊤
  MembersHaveDistinctNames (member k j ms) = HasDistinctNames j × MembersHaveDistinctNames ms
