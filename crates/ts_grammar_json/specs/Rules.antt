-- Rule trees: what an object of a grammar file stands for as a rule, and its faults.
use Rattle.std.specs.Prelude.{ℕ, suc, false, if◌then◌else◌, List, [], ◌∷◌, ◌++◌, Option, Some, None, Result, Ok, Err, codes, pos}
use Rattle.std.specs.Str.{bytes_eq}
use Rattle.ts_base.specs.Bytes.{Bytes}
use Rattle.ts_ojson.specs.Json.{Json, array, object, Items, no_items, item, Members, no_members, member}
use Rattle.ts_core.specs.declared.rule.Rule.{Rule}
use Rattle.ts_core.specs.declared.rule.Rule.TheVariants as rule
use Rattle.ts_core.specs.declared.rule.PrecValue.{PrecValue}
use Rattle.ts_core.specs.declared.rule.PrecValue.TheVariants.{Number}
use Rattle.ts_grammar_json.specs.declared.rule_type.RuleType.{RuleType}
use Rattle.ts_grammar_json.specs.declared.rule_type.RuleType.TheVariants.{Blank, Literal, Pattern, Symbol, Seq, Choice, Repeat, Repeat1, Token, ImmediateToken, Field, Alias, Prec, PrecLeft, PrecRight, PrecDynamic}
use Rattle.ts_grammar_json.specs.declared.fault.GFault.{GFault}
use Rattle.ts_grammar_json.specs.declared.fault.GFault.TheVariants.{Missing, Wrong, UnknownType, Reserved}
use Rattle.ts_grammar_json.specs.Pointer.{step, place}
use Rattle.ts_grammar_json.specs.Members.{find}
use Rattle.ts_grammar_json.specs.Kinds.{text_of, truth_of, array_of, some_items_of, object_of, flags_of, whole_of, precedence_of, read_or, text_in}
use Rattle.ts_grammar_json.specs.Faults.{under, wrong, be, must, may}

-- ---- types

-- the rule type that a word names, if it names one
abbrev pub type_named : Bytes → Option RuleType
type_named word =
    if bytes_eq word (codes "BLANK") then Some Blank
    else if bytes_eq word (codes "STRING") then Some Literal
    else if bytes_eq word (codes "PATTERN") then Some Pattern
    else if bytes_eq word (codes "SYMBOL") then Some Symbol
    else if bytes_eq word (codes "SEQ") then Some Seq
    else if bytes_eq word (codes "CHOICE") then Some Choice
    else if bytes_eq word (codes "REPEAT") then Some Repeat
    else if bytes_eq word (codes "REPEAT1") then Some Repeat1
    else if bytes_eq word (codes "TOKEN") then Some Token
    else if bytes_eq word (codes "IMMEDIATE_TOKEN") then Some ImmediateToken
    else if bytes_eq word (codes "FIELD") then Some Field
    else if bytes_eq word (codes "ALIAS") then Some Alias
    else if bytes_eq word (codes "PREC") then Some Prec
    else if bytes_eq word (codes "PREC_LEFT") then Some PrecLeft
    else if bytes_eq word (codes "PREC_RIGHT") then Some PrecRight
    else if bytes_eq word (codes "PREC_DYNAMIC") then Some PrecDynamic
    else None

-- the type that a word was found to name, or the fault of a type that is unknown
abbrev pub known_type : Option RuleType → Result RuleType GFault
known_type (Some t) = Ok t
known_type None = Err (UnknownType (step (codes "type")))

-- of a word: RESERVED is read and refused, and another word has to name a type
abbrev pub type_of_word : Bytes → Result RuleType GFault
type_of_word word =
    if bytes_eq word (codes "RESERVED") then Err Reserved else known_type (type_named word)

-- the type of a rule from the text at `type`, which is wrong where there is no text
abbrev pub type_of_text : Option Bytes → Result RuleType GFault
type_of_text None = Err (Wrong (step (codes "type")))
type_of_text (Some word) = type_of_word word

-- the type of a rule, from the value at its member `type`
abbrev pub type_of : Option Json → Result RuleType GFault
type_of None = Err (Missing (step (codes "type")))
type_of (Some value) = type_of_text (text_of value)

-- ---- members

-- the values of the members that rules have
pub record Looked : Type 0 where
  pub kind : Option Json
  pub value : Option Json
  pub flags : Option Json
  pub name : Option Json
  pub members : Option Json
  pub content : Option Json
  pub named : Option Json

-- the values of a rule's members by their names, the first of equal names
abbrev pub looked : Members → Looked
looked ms = record {
  kind = find (codes "type") ms;
  value = find (codes "value") ms;
  flags = find (codes "flags") ms;
  name = find (codes "name") ms;
  members = find (codes "members") ms;
  content = find (codes "content") ms;
  named = find (codes "named") ms;
}

-- the faults of the member `content`, which has to be there and to be an object
abbrev pub content_faults : Looked → List GFault
content_faults m = must (codes "content") (be object_of) m.content

-- the faults of a rule's own members, in the order in which each type has them
abbrev pub own_faults : RuleType → Looked → List GFault
own_faults Blank m = []
own_faults Literal m = must (codes "value") (be text_of) m.value
own_faults Pattern m =
    must (codes "value") (be text_of) m.value ++ may (codes "flags") (be flags_of) m.flags
own_faults Symbol m = must (codes "name") (be text_of) m.name
own_faults Seq m = must (codes "members") (be array_of) m.members
own_faults Choice m = must (codes "members") (be some_items_of) m.members
own_faults Repeat m = content_faults m
own_faults Repeat1 m = content_faults m
own_faults Token m = content_faults m
own_faults ImmediateToken m = content_faults m
own_faults Field m = must (codes "name") (be text_of) m.name ++ content_faults m
own_faults Alias m =
    content_faults m
    ++ (must (codes "named") (be truth_of) m.named ++ must (codes "value") (be text_of) m.value)
own_faults Prec m = must (codes "value") (be precedence_of) m.value ++ content_faults m
own_faults PrecLeft m = must (codes "value") (be precedence_of) m.value ++ content_faults m
own_faults PrecRight m = must (codes "value") (be precedence_of) m.value ++ content_faults m
own_faults PrecDynamic m = must (codes "value") (be whole_of) m.value ++ content_faults m

-- the faults inside a rule: those at its content, or those at its members
abbrev pub inner_faults : RuleType → List GFault → List GFault → List GFault
inner_faults Blank content members = []
inner_faults Literal content members = []
inner_faults Pattern content members = []
inner_faults Symbol content members = []
inner_faults Seq content members = members
inner_faults Choice content members = members
inner_faults Repeat content members = content
inner_faults Repeat1 content members = content
inner_faults Token content members = content
inner_faults ImmediateToken content members = content
inner_faults Field content members = content
inner_faults Alias content members = content
inner_faults Prec content members = content
inner_faults PrecLeft content members = content
inner_faults PrecRight content members = content
inner_faults PrecDynamic content members = content

-- a rule's own members are judged before the rules inside it
abbrev pub typed_faults : Result RuleType GFault → Looked → List GFault → List GFault → List GFault
typed_faults (Err fault) m content members = fault ∷ []
typed_faults (Ok t) m content members = own_faults t m ++ inner_faults t content members

-- the faults of rules, with those of the rules inside them
abbrev mutual
  -- the faults of a value as a rule
  pub rule_faults : Json → List GFault
  rule_faults (object ms) =
      typed_faults (type_of (find (codes "type") ms)) (looked ms)
      (faults_at_content ms) (faults_at_members ms)
  rule_faults _ = wrong

  -- those of the rule at the member `content`
  pub faults_at_content : Members → List GFault
  faults_at_content no_members = []
  faults_at_content (member name value ms) =
      if bytes_eq name (codes "content") then under (step (codes "content")) (rule_faults value)
      else faults_at_content ms

  -- those of the rules in the array at the member `members`
  pub faults_at_members : Members → List GFault
  faults_at_members no_members = []
  faults_at_members (member name value ms) =
      if bytes_eq name (codes "members") then under (step (codes "members")) (array_faults value)
      else faults_at_members ms

  -- the faults of a value as an array of rules
  pub array_faults : Json → List GFault
  array_faults (array js) = item_faults 0 js
  array_faults _ = wrong

  -- those of the rules in an array, the first of them at place k
  pub item_faults : ℕ → Items → List GFault
  item_faults k no_items = []
  item_faults k (item value js) = under (place k) (rule_faults value) ++ item_faults (suc k) js

-- ---- trees

-- the precedence at the member `value`, else the number 0
abbrev pub precedence_in : Looked → PrecValue
precedence_in m = read_or (Number (pos 0)) precedence_of m.value

-- the tree of a rule, from its members and the trees inside it
abbrev pub tree_of : RuleType → Looked → Rule → List Rule → Rule
tree_of Blank m content members = rule.Blank
tree_of Literal m content members = rule.Literal (text_in m.value)
tree_of Pattern m content members = rule.Pattern (text_in m.value) (read_or false flags_of m.flags)
tree_of Symbol m content members = rule.Symbol (text_in m.name)
tree_of Seq m content members = rule.Seq members
tree_of Choice m content members = rule.Choice members
tree_of Repeat m content members = rule.Repeat content
tree_of Repeat1 m content members = rule.Repeat1 content
tree_of Token m content members = rule.Token content
tree_of ImmediateToken m content members = rule.ImmediateToken content
tree_of Field m content members = rule.Field (text_in m.name) content
tree_of Alias m content members =
    rule.Alias content (read_or false truth_of m.named) (text_in m.value)
tree_of Prec m content members = rule.Prec (precedence_in m) content
tree_of PrecLeft m content members = rule.PrecLeft (precedence_in m) content
tree_of PrecRight m content members = rule.PrecRight (precedence_in m) content
tree_of PrecDynamic m content members = rule.PrecDynamic (read_or (pos 0) whole_of m.value) content

-- the tree of a rule of this type; of a fault at `type` nothing is meant
abbrev pub typed_tree : Result RuleType GFault → Looked → Rule → List Rule → Rule
typed_tree (Err fault) m content members = rule.Blank
typed_tree (Ok t) m content members = tree_of t m content members

-- the trees of rules, with those of the rules inside them
abbrev mutual
  -- the tree of a value that has no faults as a rule; of others nothing is meant
  pub rule_of : Json → Rule
  rule_of (object ms) =
      typed_tree (type_of (find (codes "type") ms)) (looked ms) (content_of ms) (rules_of ms)
  rule_of _ = rule.Blank

  -- the tree of the rule at the member `content`
  pub content_of : Members → Rule
  content_of no_members = rule.Blank
  content_of (member name value ms) =
      if bytes_eq name (codes "content") then rule_of value else content_of ms

  -- the trees of the rules in the array at the member `members`
  pub rules_of : Members → List Rule
  rules_of no_members = []
  rules_of (member name value ms) =
      if bytes_eq name (codes "members") then array_rules value else rules_of ms

  -- the trees of the rules in an array
  pub array_rules : Json → List Rule
  array_rules (array js) = item_rules js
  array_rules _ = []

  -- the trees of items, one after another
  pub item_rules : Items → List Rule
  item_rules no_items = []
  item_rules (item value js) = rule_of value ∷ item_rules js
