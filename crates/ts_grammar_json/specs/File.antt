-- Grammar files: the grammar that a JSON value stands for, and its first fault.
use Rattle.std.specs.Prelude.{◌≡◌, ◌≢◌, ℕ, Bool, true, false, if◌then◌else◌, nat_lt, List, [], ◌∷◌, ◌++◌, length, Option, Some, None, Result, Ok, Err, codes}
use Rattle.std.specs.Str.{bytes_eq}
use Rattle.ts_base.specs.Bytes.{Bytes}
use Rattle.ts_ojson.specs.Json.{Json, array, object, Items, no_items, item, Members, no_members, member, names}
use Rattle.ts_core.specs.declared.rule.Rule.{Rule}
use Rattle.ts_core.specs.declared.rule.Ranked.{Ranked}
use Rattle.ts_core.specs.declared.rule.Ranked.TheVariants as ranked
use Rattle.ts_core.specs.declared.rule.Grammar.{Grammar}
use Rattle.ts_core.specs.declared.limits.Limited.TheVariants.{Rules}
use Rattle.ts_grammar_json.specs.declared.fault.GFault.{GFault}
use Rattle.ts_grammar_json.specs.declared.fault.GFault.TheVariants.{Missing, Wrong, UnknownType, External, Reserved, Limit, Memory}
use Rattle.ts_grammar_json.specs.Pointer.{step}
use Rattle.ts_grammar_json.specs.Members.{find}
use Rattle.ts_grammar_json.specs.Kinds.{text_of, word_of, read_or, text_in}
use Rattle.ts_grammar_json.specs.Faults.{under, first, wrong, be, must, may, list}
use Rattle.ts_grammar_json.specs.Rules.{Looked, looked, rule_faults, rule_of, array_faults, array_rules}

-- ---- rules

-- the most rules that a grammar file has
abbrev pub most_rules : ℕ
most_rules = 4096

-- no rule has an empty name
abbrev pub have_names : Members → Bool
have_names no_members = true
have_names (member [] value ms) = false
have_names (member (byte ∷ name) value ms) = have_names ms

-- there is a rule, and none has an empty name
abbrev pub are_named : Members → Bool
are_named no_members = false
are_named (member name value ms) = have_names (member name value ms)

-- the value is wrong where this is not so, and else it has no fault
abbrev pub wrong_if_not : Bool → List GFault
wrong_if_not true = []
wrong_if_not false = wrong

-- more rules than a grammar file has
abbrev pub limit_faults : Members → List GFault
limit_faults ms = if nat_lt most_rules (length (names ms)) then Limit Rules ∷ [] else []

-- the faults of each rule, in file order
abbrev pub each_rule : Members → List GFault
each_rule no_members = []
each_rule (member name value ms) = under (step name) (rule_faults value) ++ each_rule ms

-- the form of the object and the number of rules are judged before the rules
abbrev pub rules_faults : Json → List GFault
rules_faults (object ms) = wrong_if_not (are_named ms) ++ (limit_faults ms ++ each_rule ms)
rules_faults _ = wrong

-- the rules in file order, each a name and a tree
abbrev pub named_rules : Members → List (Bytes × Rule)
named_rules no_members = []
named_rules (member name value ms) = (name, rule_of value) ∷ named_rules ms

-- the rules of the object at the member `rules`, none where there is no object
abbrev pub rules_in : Option Json → List (Bytes × Rule)
rules_in (Some (object ms)) = named_rules ms
rules_in _ = []

-- ---- entries of `precedences`: {"type":"STRING","value":..} or {"type":"SYMBOL","name":..}

-- the two types of an entry
pub data Entry : Type 0 where
  by_name : Entry
  by_rule : Entry

-- the type of an entry that a word names, or the fault of a type that is unknown
abbrev pub entry_of_word : Bytes → Result Entry GFault
entry_of_word word =
    if bytes_eq word (codes "STRING") then Ok by_name
    else if bytes_eq word (codes "SYMBOL") then Ok by_rule
    else Err (UnknownType (step (codes "type")))

-- the type of an entry from the text at `type`, which is wrong where there is no text
abbrev pub entry_of_text : Option Bytes → Result Entry GFault
entry_of_text None = Err (Wrong (step (codes "type")))
entry_of_text (Some word) = entry_of_word word

-- the type of an entry from the value at its member `type`, or the fault there
abbrev pub entry_of : Option Json → Result Entry GFault
entry_of None = Err (Missing (step (codes "type")))
entry_of (Some value) = entry_of_text (text_of value)

-- the faults of an entry of this type with these members
abbrev pub entry_faults : Result Entry GFault → Looked → List GFault
entry_faults (Err fault) m = fault ∷ []
entry_faults (Ok by_name) m = must (codes "value") (be text_of) m.value
entry_faults (Ok by_rule) m = must (codes "name") (be text_of) m.name

-- the faults of a value as an entry of `precedences`
abbrev pub ranked_faults : Json → List GFault
ranked_faults (object ms) = entry_faults (entry_of (find (codes "type") ms)) (looked ms)
ranked_faults _ = wrong

-- the entry of this type with these members, where it has no faults
abbrev pub ranked_by : Result Entry GFault → Looked → Ranked
ranked_by (Err fault) m = ranked.Name []
ranked_by (Ok by_name) m = ranked.Name (text_in m.value)
ranked_by (Ok by_rule) m = ranked.Rule (text_in m.name)

-- the entry of a value that has no faults as one
abbrev pub ranked_of : Json → Ranked
ranked_of (object ms) = ranked_by (entry_of (find (codes "type") ms)) (looked ms)
ranked_of _ = ranked.Name []

-- ---- lists

-- the items in their order, each read by this
abbrev pub each_read : {X : Type 0} → (Json → X) → Items → List X
each_read read no_items = []
each_read read (item value js) = read value ∷ each_read read js

-- the items of an array, each read by this
abbrev pub list_of : {X : Type 0} → (Json → X) → Json → List X
list_of read (array js) = each_read read js
list_of read _ = []

-- an absent list is empty
abbrev pub list_in : {X : Type 0} → (Json → X) → Option Json → List X
list_in read None = []
list_in read (Some value) = list_of read value

-- the text that a value is, the empty one where it is no text
abbrev pub text_at : Json → Bytes
text_at value = text_in (Some value)

-- the faults of a value that has to be a text
abbrev pub is_text : Json → List GFault
is_text value = be text_of value

-- ---- what is refused unless it is empty

-- the faults at `externals`: an array that has an item, or a value that is no array
abbrev pub external_faults : Json → List GFault
external_faults (array no_items) = []
external_faults (array (item value js)) = External ∷ []
external_faults _ = wrong

-- the faults at `reserved`: an object or an array that is not empty, or another value
abbrev pub reserved_faults : Json → List GFault
reserved_faults (array no_items) = []
reserved_faults (array (item value js)) = Reserved ∷ []
reserved_faults (object no_members) = []
reserved_faults (object (member name value ms)) = Reserved ∷ []
reserved_faults _ = wrong

-- ---- the file

-- the values of the file's members
pub record FileMembers : Type 0 where
  pub name : Option Json
  pub rules : Option Json
  pub word : Option Json
  pub extras : Option Json
  pub conflicts : Option Json
  pub precedences : Option Json
  pub externals : Option Json
  pub reserved : Option Json
  pub inline : Option Json
  pub supertypes : Option Json

-- the values of the members by their names, the first of equal names
abbrev pub file_members : Members → FileMembers
file_members ms = record {
  name = find (codes "name") ms;
  rules = find (codes "rules") ms;
  word = find (codes "word") ms;
  extras = find (codes "extras") ms;
  conflicts = find (codes "conflicts") ms;
  precedences = find (codes "precedences") ms;
  externals = find (codes "externals") ms;
  reserved = find (codes "reserved") ms;
  inline = find (codes "inline") ms;
  supertypes = find (codes "supertypes") ms;
}

-- their faults, in the order in which the format has the members
abbrev pub member_faults : FileMembers → List GFault
member_faults m =
    must (codes "name") is_text m.name
    ++ (must (codes "rules") rules_faults m.rules
    ++ (may (codes "word") (be word_of) m.word
    ++ (may (codes "extras") array_faults m.extras
    ++ (may (codes "conflicts") (list (list is_text)) m.conflicts
    ++ (may (codes "precedences") (list (list ranked_faults)) m.precedences
    ++ (may (codes "externals") external_faults m.externals
    ++ (may (codes "reserved") reserved_faults m.reserved
    ++ (may (codes "inline") (list is_text) m.inline
    ++ may (codes "supertypes") (list is_text) m.supertypes))))))))

-- the faults of a value as a grammar file
abbrev pub file_faults : Json → List GFault
file_faults (object ms) = member_faults (file_members ms)
file_faults _ = wrong

-- the rule trees of an array, where there is one
abbrev pub extras_in : Option Json → List Rule
extras_in None = []
extras_in (Some value) = array_rules value

-- the grammar of a file with these members, where they have no faults
abbrev pub members_grammar : FileMembers → Grammar
members_grammar m = record {
  name = text_in m.name;
  rules = rules_in m.rules;
  word = read_or None word_of m.word;
  extras = extras_in m.extras;
  conflicts = list_in (list_of text_at) m.conflicts;
  precedences = list_in (list_of ranked_of) m.precedences;
  inline = list_in text_at m.inline;
  supertypes = list_in text_at m.supertypes;
}

-- the grammar of a value that has no faults as a grammar file
abbrev pub grammar_of : Json → Grammar
grammar_of (object ms) = members_grammar (file_members ms)
grammar_of _ = members_grammar (file_members no_members)

-- the value is a grammar file, and stands for this grammar
pub record IsGrammar (value : Json) (grammar : Grammar) : Type 0 where
  pub faultless : file_faults value ≡ []
  pub stands : grammar ≡ grammar_of value

-- The value is no grammar file, and this is its first fault. Running out of memory is no fault of
-- a value.
abbrev pub IsFault : GFault → Json → Type 0
IsFault fault value = fault ≢ Memory → first (file_faults value) ≡ Some fault
