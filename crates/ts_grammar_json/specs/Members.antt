-- Members of an object by their names.
use Rattle.std.specs.Prelude.{List, map, Option, Some, None, if◌then◌else◌}
use Rattle.std.specs.Str.{bytes_eq}
use Rattle.ts_base.specs.Bytes.{Bytes}
use Rattle.ts_ojson.specs.declared.value.OJson.{OJson}
use Rattle.ts_ojson.specs.Json.{Json, json_of, Items, items_of, Members, no_members, member, members_of}

-- the value of the member of this name
abbrev pub find : Bytes → Members → Option Json
find name no_members = None
find name (member own value ms) = if bytes_eq own name then Some value else find name ms

-- what the code's list of members stands for
abbrev pub members_json : List (Bytes × OJson) → Members
members_json ms = members_of (map (λ m. (m.0, json_of m.1)) ms)

-- what the code's list of items stands for
abbrev pub items_json : List OJson → Items
items_json js = items_of (map json_of js)
