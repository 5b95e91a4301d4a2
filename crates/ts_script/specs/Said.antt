-- How each line of a script is written.
use Rattle.std.specs.Prelude.{ℕ, ◌≡◌, ◌<◌, ◌^◌, List, [], map, All, Some, codes}
use Rattle.std.specs.Str.{IsUtf8}
use Rattle.ts_base.specs.Bytes.{Bytes}
use Rattle.serde_json.specs.Data.{Data, number, unsigned, string, array, object, Members, no_members, member}
use Rattle.serde_json.specs.Read.{read}
use Rattle.serde_json.specs.View.{items_of}
use Rattle.ts_script.specs.declared.said.Action.{Action}
use Rattle.ts_script.specs.declared.said.Action.TheVariants as action
use Rattle.ts_script.specs.declared.said.Piece.{Piece}
use Rattle.ts_script.specs.declared.said.Said.{Said}
use Rattle.ts_script.specs.declared.said.Said.TheVariants.{Text, Path, Load, Step}

-- ---- the members of each line

-- a number is written without a fraction and without an exponent
abbrev pub whole : ℕ → Data
whole n = number (unsigned n)

-- the member `op`
abbrev pub with_op : Bytes → Members → Members
with_op word after = member (codes "op") (string word) after

-- one of several ranges, with what comes in its place
abbrev pub piece_data : Piece → Data
piece_data p =
    object (member (codes "end") (whole p.end) (member (codes "new") (string p.new)
    (member (codes "start") (whole p.start) no_members)))

-- the members of a step beside its client and its document
abbrev pub action_members : Action → Members
action_members (action.Change p) =
    member (codes "end") (whole p.end) (member (codes "new") (string p.new)
    (with_op (codes "edit") (member (codes "start") (whole p.start) no_members)))
action_members (action.Changes ps) =
    with_op (codes "edit")
    (member (codes "parts") (array (items_of (map piece_data ps))) no_members)
action_members action.Look = with_op (codes "look") no_members
action_members (action.Query qs) =
    with_op (codes "query") (member (codes "queries") (array (items_of (map whole qs))) no_members)
action_members action.Tree = with_op (codes "tree") no_members
action_members (action.Await version) =
    with_op (codes "await") (member (codes "version") (whole version) no_members)

-- The members of the object that says it. They stand here in the order of their names' bytes, as
-- `serde_json` gives them; a line may have them in any order.
abbrev pub said_members : Said → Members
said_members (Text text) = with_op (codes "open") (member (codes "text") (string text) no_members)
said_members (Path path) = with_op (codes "open") (member (codes "path") (string path) no_members)
said_members (Load source) =
    with_op (codes "load") (member (codes "source") (string source) no_members)
said_members (Step client document act) =
    member (codes "client") (whole client) (member (codes "document") (whole document)
    (action_members act))

-- ---- numbers

-- the number fits a u32
abbrev pub IsNumber : ℕ → Type 0
IsNumber n = n < 2 ^ 32

-- the places of the range are numbers
abbrev pub HasPlaces : Piece → Type 0
HasPlaces p = IsNumber p.start × IsNumber p.end

-- each number of the step fits, and there is a range or a query where it lists them
abbrev pub IsAction : Action → Type 0
IsAction (action.Change p) = HasPlaces p
IsAction (action.Changes ps) = (ps ≡ [] → ⊥) × All HasPlaces ps
IsAction action.Look = Unit {0}
IsAction (action.Query qs) = (qs ≡ [] → ⊥) × All IsNumber qs
IsAction action.Tree = Unit {0}
IsAction (action.Await version) = IsNumber version

-- each number of the line fits, and there is a range or a query where its step lists them
abbrev pub IsSaid : Said → Type 0
IsSaid (Text text) = Unit {0}
IsSaid (Path path) = Unit {0}
IsSaid (Load source) = Unit {0}
IsSaid (Step client document act) = IsNumber client × IsNumber document × IsAction act

-- ---- lines

-- The line is the JSON object of what it says, as `serde_json` reads it: a name that stands twice
-- has its last value.
pub record Says (line : Bytes) (said : Said) : Type 0 where
  pub utf8 : IsUtf8 line
  pub written : read line ≡ Some (object (said_members said))
  pub fits : IsSaid said
