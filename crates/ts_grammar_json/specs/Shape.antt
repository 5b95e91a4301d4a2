-- Rules whose own members are read, and what is left to read inside them.
use Rattle.std.specs.Prelude.{◌≡◌, ◌≢◌, ℕ, suc, ◌≤◌, max, List, [], Option, Some, None, Result, Ok, Err, codes}
use Rattle.ts_ojson.specs.Json.{Json, json_of, object, Members, items_depth, depth, members_depth}
use Rattle.ts_core.specs.declared.rule.Rule.{Rule}
use Rattle.ts_core.specs.declared.rule.Rule.TheVariants as rule
use Rattle.ts_grammar_json.specs.declared.fault.GFault.{GFault}
use Rattle.ts_grammar_json.specs.declared.fault.GFault.TheVariants.{Memory}
use Rattle.ts_grammar_json.specs.declared.rule_type.RuleType.{RuleType}
use Rattle.ts_grammar_json.specs.declared.shape.Wrap.{Wrap}
use Rattle.ts_grammar_json.specs.declared.shape.Wrap.TheVariants.{Repeat, Repeat1, Token, ImmediateToken, Field, Alias, Prec, PrecLeft, PrecRight, PrecDynamic}
use Rattle.ts_grammar_json.specs.declared.shape.Shape.{Shape}
use Rattle.ts_grammar_json.specs.declared.shape.Shape.TheVariants.{Leaf, Seq, Choice, Around}
use Rattle.ts_grammar_json.specs.Pointer.{step}
use Rattle.ts_grammar_json.specs.Members.{items_json}
use Rattle.ts_grammar_json.specs.Faults.{under, first}
use Rattle.ts_grammar_json.specs.Rules.{Looked, own_faults, inner_faults, tree_of, rule_faults, rule_of, array_faults, array_rules, item_faults, item_rules}

-- the tree of a rule that has a content, round the tree of that content
abbrev pub wrapped : Wrap → Rule → Rule
wrapped Repeat content = rule.Repeat content
wrapped Repeat1 content = rule.Repeat1 content
wrapped Token content = rule.Token content
wrapped ImmediateToken content = rule.ImmediateToken content
wrapped (Field name) content = rule.Field name content
wrapped (Alias named value) content = rule.Alias content named value
wrapped (Prec value) content = rule.Prec value content
wrapped (PrecLeft value) content = rule.PrecLeft value content
wrapped (PrecRight value) content = rule.PrecRight value content
wrapped (PrecDynamic value) content = rule.PrecDynamic value content

-- the tree that a shape stands for
abbrev pub tree_in : Shape → Rule
tree_in (Leaf tree) = tree
tree_in (Seq items) = rule.Seq (item_rules (items_json items.now))
tree_in (Choice items) = rule.Choice (item_rules (items_json items.now))
tree_in (Around wrap content) = wrapped wrap (rule_of (json_of content.now))

-- the faults inside a shape, seen from its rule
abbrev pub faults_in : Shape → List GFault
faults_in (Leaf tree) = []
faults_in (Seq items) = under (step (codes "members")) (item_faults 0 (items_json items.now))
faults_in (Choice items) = under (step (codes "members")) (item_faults 0 (items_json items.now))
faults_in (Around wrap content) = under (step (codes "content")) (rule_faults (json_of content.now))

-- how deep what is inside nests
abbrev pub height : Shape → ℕ
height (Leaf tree) = 0
height (Seq items) = suc (items_depth (items_json items.now))
height (Choice items) = suc (items_depth (items_json items.now))
height (Around wrap content) = depth (json_of content.now)

-- the faults at the member `content`, none where it is absent
abbrev pub faults_of_content : Option Json → List GFault
faults_of_content None = []
faults_of_content (Some value) = under (step (codes "content")) (rule_faults value)

-- the faults at the member `members`, none where it is absent
abbrev pub faults_of_members : Option Json → List GFault
faults_of_members None = []
faults_of_members (Some value) = under (step (codes "members")) (array_faults value)

-- the tree at the member `content`, a blank where it is absent
abbrev pub tree_of_content : Option Json → Rule
tree_of_content None = rule.Blank
tree_of_content (Some value) = rule_of value

-- the trees at the member `members`, none where it is absent
abbrev pub trees_of_members : Option Json → List Rule
trees_of_members None = []
trees_of_members (Some value) = array_rules value

-- how deep the value of a member nests, 0 where it is absent
abbrev pub depth_of : Option Json → ℕ
depth_of None = 0
depth_of (Some value) = depth value

-- a rule of this type with these members has this shape
pub record HasShape (t : RuleType) (m : Looked) (shape : Shape) : Type 0 where
  pub own : own_faults t m ≡ []
  pub inner :
      inner_faults t (faults_of_content m.content) (faults_of_members m.members) ≡ faults_in shape
  pub tree : tree_of t m (tree_of_content m.content) (trees_of_members m.members) ≡ tree_in shape
  pub lower : height shape ≤ max (depth_of m.content) (depth_of m.members)

-- a shape that the rule has, or else the first fault of its own members, or out of memory
abbrev pub GivesShape : RuleType → Looked → Result Shape GFault → Type 0
GivesShape t m (Ok shape) = HasShape t m shape
GivesShape t m (Err fault) = fault ≢ Memory → first (own_faults t m) ≡ Some fault

-- an object with these members has this shape
pub record IsShape (ms : Members) (shape : Shape) : Type 0 where
  pub faults : rule_faults (object ms) ≡ faults_in shape
  pub tree : rule_of (object ms) ≡ tree_in shape
  pub lower : height shape ≤ members_depth ms

-- a shape that the object has, or else its first fault as a rule, or out of memory
abbrev pub GivesIsShape : Members → Result Shape GFault → Type 0
GivesIsShape ms (Ok shape) = IsShape ms shape
GivesIsShape ms (Err fault) = fault ≢ Memory → first (rule_faults (object ms)) ≡ Some fault
