-- What the reader's private parts answer: a value or the first of some faults, and the members
-- that it found.
use Rattle.std.specs.Prelude.{◌≡◌, ◌≢◌, Bool, true, false, List, [], Option, Some, None, option_map, Result, Ok, Err, codes, if◌then◌else◌}
use Rattle.std.specs.Option.{option_copied}
use Rattle.std.specs.Borrow.{Bor}
use Rattle.std.specs.Str.{bytes_eq}
use Rattle.ts_base.specs.Bytes.{Bytes}
use Rattle.ts_ojson.specs.declared.value.OJson.{OJson}
use Rattle.ts_ojson.specs.Json.{Json, json_of, array, object, no_items, item, no_members, member}
use Rattle.ts_grammar_json.specs.declared.fault.GFault.{GFault}
use Rattle.ts_grammar_json.specs.declared.fault.GFault.TheVariants.{Memory}
use Rattle.ts_grammar_json.specs.declared.found.Found.{Found}
use Rattle.ts_grammar_json.specs.declared.found.FileFound.{FileFound}
use Rattle.ts_grammar_json.specs.Faults.{first}
use Rattle.ts_grammar_json.specs.Rules.{Looked}
use Rattle.ts_grammar_json.specs.File.{FileMembers}

-- the answer is the value where there are no faults, else the first of them, or out of memory
abbrev pub Gives : {X : Type 0} → List GFault → X → Result X GFault → Type 0
Gives faults value (Ok x) = (faults ≡ []) × (x ≡ value)
Gives faults value (Err fault) = fault ≢ Memory → first faults ≡ Some fault

-- the value that a reference stands for, where there is one
abbrev pub json_at : Option (Bor OJson) → Option Json
json_at value = option_map json_of (option_copied value)

-- a member that was found before, or else this one where its name is the one that is wanted
abbrev pub noted : Option Json → Bytes → Bytes → Json → Option Json
noted (Some before) wanted name value = Some before
noted None wanted name value = if bytes_eq name wanted then Some value else None

-- the members of a rule that were found, as the values that they stand for
abbrev pub looked_of : Found → Looked
looked_of found = record {
  kind = json_at found.kind;
  value = json_at found.value;
  flags = json_at found.flags;
  name = json_at found.name;
  members = json_at found.members;
  content = json_at found.content;
  named = json_at found.named;
}

-- the members that were found, and one more
abbrev pub looked_and : Looked → Bytes → Json → Looked
looked_and before name value = record {
  kind = noted before.kind (codes "type") name value;
  value = noted before.value (codes "value") name value;
  flags = noted before.flags (codes "flags") name value;
  name = noted before.name (codes "name") name value;
  members = noted before.members (codes "members") name value;
  content = noted before.content (codes "content") name value;
  named = noted before.named (codes "named") name value;
}

-- the members of the file that were found, as the values that they stand for
abbrev pub file_of : FileFound → FileMembers
file_of found = record {
  name = json_at found.name;
  rules = json_at found.rules;
  word = json_at found.word;
  extras = json_at found.extras;
  conflicts = json_at found.conflicts;
  precedences = json_at found.precedences;
  externals = json_at found.externals;
  reserved = json_at found.reserved;
  inline = json_at found.inline;
  supertypes = json_at found.supertypes;
}

-- the members of the file that were found, and one more
abbrev pub file_and : FileMembers → Bytes → Json → FileMembers
file_and before key value = record {
  name = noted before.name (codes "name") key value;
  rules = noted before.rules (codes "rules") key value;
  word = noted before.word (codes "word") key value;
  extras = noted before.extras (codes "extras") key value;
  conflicts = noted before.conflicts (codes "conflicts") key value;
  precedences = noted before.precedences (codes "precedences") key value;
  externals = noted before.externals (codes "externals") key value;
  reserved = noted before.reserved (codes "reserved") key value;
  inline = noted before.inline (codes "inline") key value;
  supertypes = noted before.supertypes (codes "supertypes") key value;
}

-- whether an array or an object has nothing in it
abbrev pub emptiness : Json → Option Bool
emptiness (array no_items) = Some true
emptiness (array (item value js)) = Some false
emptiness (object no_members) = Some true
emptiness (object (member name value ms)) = Some false
emptiness _ = None
