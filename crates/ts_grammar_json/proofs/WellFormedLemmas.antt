-- A file without faults gives a well-formed grammar.
use Rattle.std.proofs.Common.{◌≡◌, ◌≢◌, ◌∙◌, sym, ap, refl, subst, ℕ, zero, suc, ◌≤◌, Bool, true, false, cond, ◌&&◌, nat_lt, List, [], ◌∷◌, ◌++◌, length, map, slice_get, Option, Some, None, Result, Ok, Err, codes, ℤ, arith}
use Rattle.std.specs.Str.{bytes_eq}
use Rattle.std.specs.List.{list_all}
use Rattle.std.proofs.lemmas.Bool.Decides.{nat_tests}
use Rattle.ts_base.specs.Bytes.{Bytes}
use Rattle.ts_ojson.specs.Json.{Json, null, boolean, number, string, array, object, Items, no_items, item, Members, no_members, member, names, IsNone, AreDistinct, HasDistinctNames, MembersHaveDistinctNames}
use Rattle.ts_core.specs.declared.rule.PrecValue.{PrecValue}
use Rattle.ts_core.specs.declared.rule.Rule.{Rule}
use Rattle.ts_core.specs.declared.rule.Rule.TheVariants as rule
use Rattle.ts_core.specs.declared.rule.Rule.TheVariants.{rolls-Blank, rolls-Literal, rolls-Pattern, rolls-Symbol, rolls-Seq, rolls-Choice, rolls-Repeat, rolls-Repeat1, rolls-Token, rolls-ImmediateToken, rolls-Field, rolls-Alias, rolls-Prec, rolls-PrecLeft, rolls-PrecRight, rolls-PrecDynamic}
use Rattle.ts_core.specs.declared.rule.Rule.TheOpen.{Rule-F}
use Rattle.ts_core.specs.declared.rule.Rule.TheFolds.{fold-roll-Rule}
use Rattle.ts_core.specs.declared.rule.Grammar.{Grammar}
use Rattle.ts_core.specs.declared.limits.Limited.TheVariants.{Rules}
use Rattle.ts_grammar_json.specs.declared.rule_type.RuleType.{RuleType}
use Rattle.ts_grammar_json.specs.declared.rule_type.RuleType.TheVariants.{Blank, Literal, Pattern, Symbol, Seq, Choice, Repeat, Repeat1, Token, ImmediateToken, Field, Alias, Prec, PrecLeft, PrecRight, PrecDynamic}
use Rattle.ts_grammar_json.specs.declared.fault.GFault.{GFault}
use Rattle.ts_grammar_json.specs.declared.fault.GFault.TheVariants.{Limit}
use Rattle.ts_grammar_json.specs.Pointer.{step, place}
use Rattle.ts_grammar_json.specs.Members.{find}
use Rattle.ts_grammar_json.specs.Kinds.{some_items_of}
use Rattle.ts_grammar_json.specs.Faults.{from_above, under, wrong, be, must, may}
use Rattle.ts_grammar_json.specs.Rules.{Looked, looked, type_of, own_faults, inner_faults, typed_faults, typed_tree, tree_of, rule_faults, rule_of, faults_at_content, faults_at_members, content_of, rules_of, array_faults, array_rules, item_faults, item_rules}
use Rattle.ts_grammar_json.specs.File.{have_names, are_named, wrong_if_not, limit_faults, each_rule, rules_faults, named_rules, rules_in, extras_in, file_members, member_faults, grammar_of, IsGrammar}
use Rattle.ts_grammar_json.specs.Shape.{trees_of_members}
use Rattle.ts_grammar_json.specs.WellFormed.{is_true, choices_step, has_choices, IsWellFormed}
use Rattle.ts_grammar_json.proofs.ShapeLemmas.{trees_found}

-- ---- `has_choices`, one law for each variant

abbrev all_fine : List Rule → Bool
all_fine rs = list_all is_true (map has_choices rs)

of_blank : has_choices rule.Blank ≡ true
of_blank = ap has_choices (sym rolls-Blank) ∙ fold-roll-Rule Bool choices_step Rule-F.Blank

of_literal : (s : Bytes) → has_choices (rule.Literal s) ≡ true
of_literal s = ap has_choices (sym (rolls-Literal s)) ∙ fold-roll-Rule Bool choices_step (Rule-F.Literal s)

of_pattern : (s : Bytes) (b : Bool) → has_choices (rule.Pattern s b) ≡ true
of_pattern s b = ap has_choices (sym (rolls-Pattern s b)) ∙ fold-roll-Rule Bool choices_step (Rule-F.Pattern s b)

of_symbol : (s : Bytes) → has_choices (rule.Symbol s) ≡ true
of_symbol s = ap has_choices (sym (rolls-Symbol s)) ∙ fold-roll-Rule Bool choices_step (Rule-F.Symbol s)

of_seq : (rs : List Rule) → has_choices (rule.Seq rs) ≡ all_fine rs
of_seq rs = ap has_choices (sym (rolls-Seq rs)) ∙ fold-roll-Rule Bool choices_step (Rule-F.Seq rs)

of_choice : (r : Rule) (rs : List Rule) → has_choices (rule.Choice (r ∷ rs)) ≡ all_fine (r ∷ rs)
of_choice r rs = ap has_choices (sym (rolls-Choice (r ∷ rs))) ∙ fold-roll-Rule Bool choices_step (Rule-F.Choice (r ∷ rs))

of_repeat : (r : Rule) → has_choices (rule.Repeat r) ≡ has_choices r
of_repeat r = ap has_choices (sym (rolls-Repeat r)) ∙ fold-roll-Rule Bool choices_step (Rule-F.Repeat r)

of_repeat1 : (r : Rule) → has_choices (rule.Repeat1 r) ≡ has_choices r
of_repeat1 r = ap has_choices (sym (rolls-Repeat1 r)) ∙ fold-roll-Rule Bool choices_step (Rule-F.Repeat1 r)

of_token : (r : Rule) → has_choices (rule.Token r) ≡ has_choices r
of_token r = ap has_choices (sym (rolls-Token r)) ∙ fold-roll-Rule Bool choices_step (Rule-F.Token r)

of_immediate : (r : Rule) → has_choices (rule.ImmediateToken r) ≡ has_choices r
of_immediate r = ap has_choices (sym (rolls-ImmediateToken r)) ∙ fold-roll-Rule Bool choices_step (Rule-F.ImmediateToken r)

of_field : (s : Bytes) (r : Rule) → has_choices (rule.Field s r) ≡ has_choices r
of_field s r = ap has_choices (sym (rolls-Field s r)) ∙ fold-roll-Rule Bool choices_step (Rule-F.Field s r)

of_alias : (r : Rule) (b : Bool) (s : Bytes) → has_choices (rule.Alias r b s) ≡ has_choices r
of_alias r b s = ap has_choices (sym (rolls-Alias r b s)) ∙ fold-roll-Rule Bool choices_step (Rule-F.Alias r b s)

of_prec : (p : PrecValue) (r : Rule) → has_choices (rule.Prec p r) ≡ has_choices r
of_prec p r = ap has_choices (sym (rolls-Prec p r)) ∙ fold-roll-Rule Bool choices_step (Rule-F.Prec p r)

of_left : (p : PrecValue) (r : Rule) → has_choices (rule.PrecLeft p r) ≡ has_choices r
of_left p r = ap has_choices (sym (rolls-PrecLeft p r)) ∙ fold-roll-Rule Bool choices_step (Rule-F.PrecLeft p r)

of_right : (p : PrecValue) (r : Rule) → has_choices (rule.PrecRight p r) ≡ has_choices r
of_right p r = ap has_choices (sym (rolls-PrecRight p r)) ∙ fold-roll-Rule Bool choices_step (Rule-F.PrecRight p r)

of_dynamic : (z : ℤ) (r : Rule) → has_choices (rule.PrecDynamic z r) ≡ has_choices r
of_dynamic z r = ap has_choices (sym (rolls-PrecDynamic z r)) ∙ fold-roll-Rule Bool choices_step (Rule-F.PrecDynamic z r)

-- ---- lists without elements

parts : (a b : List GFault) → a ++ b ≡ [] → (a ≡ []) × (b ≡ [])
parts [] b h = (refl, h)
parts (f ∷ a) b h = absurd (let apart : f ∷ (a ++ b) ≡ [] = h in cc)

above : (way : Bytes) (fs : List GFault) → under way fs ≡ [] → fs ≡ []
above way [] h = refl
above way (f ∷ fs) h = absurd (let apart : from_above way f ∷ under way fs ≡ [] = h in cc)

none_wrong : wrong ≡ [] → ⊥
none_wrong h = cc

-- ---- rules

-- what holds of a rule's tree where nothing is wrong with its own members, and the trees inside it
-- are so
fine_by : (t : RuleType) (m : Looked) (content : Rule) (members : List Rule) (cf mf : List GFault)
    → inner_faults t cf mf ≡ [] → (cf ≡ [] → has_choices content ≡ true) → (mf ≡ [] → all_fine members ≡ true) → (own_faults t m ≡ []) → (own_faults Choice m ≡ [] → members ≡ [] → ⊥)
    → has_choices (tree_of t m content members) ≡ true
fine_by Blank m content members cf mf none inside below own some = of_blank
fine_by Literal m content members cf mf none inside below own some = of_literal _
fine_by Pattern m content members cf mf none inside below own some = of_pattern _ _
fine_by Symbol m content members cf mf none inside below own some = of_symbol _
fine_by Seq m content members cf mf none inside below own some = of_seq members ∙ below none
fine_by Choice m content [] cf mf none inside below own some = absurd (some own refl)
fine_by Choice m content (r ∷ rs) cf mf none inside below own some = of_choice r rs ∙ below none
fine_by Repeat m content members cf mf none inside below own some = of_repeat content ∙ inside none
fine_by Repeat1 m content members cf mf none inside below own some = of_repeat1 content ∙ inside none
fine_by Token m content members cf mf none inside below own some = of_token content ∙ inside none
fine_by ImmediateToken m content members cf mf none inside below own some = of_immediate content ∙ inside none
fine_by Field m content members cf mf none inside below own some = of_field _ content ∙ inside none
fine_by Alias m content members cf mf none inside below own some = of_alias content _ _ ∙ inside none
fine_by Prec m content members cf mf none inside below own some = of_prec _ content ∙ inside none
fine_by PrecLeft m content members cf mf none inside below own some = of_left _ content ∙ inside none
fine_by PrecRight m content members cf mf none inside below own some = of_right _ content ∙ inside none
fine_by PrecDynamic m content members cf mf none inside below own some = of_dynamic _ content ∙ inside none

typed_fine : (r : Result RuleType GFault) (m : Looked) (content : Rule) (members : List Rule) (cf mf : List GFault)
    → typed_faults r m cf mf ≡ [] → (cf ≡ [] → has_choices content ≡ true) → (mf ≡ [] → all_fine members ≡ true) → (own_faults Choice m ≡ [] → members ≡ [] → ⊥)
    → has_choices (typed_tree r m content members) ≡ true
typed_fine (Err fault) m content members cf mf none inside below some = of_blank
typed_fine (Ok t) m content members cf mf none inside below some =
    let both = parts (own_faults t m) (inner_faults t cf mf) none in
    fine_by t m content members cf mf both.1 inside below both.0 some

some_trees : (v : Option Json) → must (codes "members") (be some_items_of) v ≡ [] → trees_of_members v ≡ [] → ⊥
some_trees None none no_tree = cc
some_trees (Some null) none no_tree = cc
some_trees (Some (boolean b)) none no_tree = cc
some_trees (Some (number s)) none no_tree = cc
some_trees (Some (string s)) none no_tree = cc
some_trees (Some (object ms)) none no_tree = cc
some_trees (Some (array no_items)) none no_tree = cc
some_trees (Some (array (item j js))) none no_tree = cc

choice_has : (ms : Members) → own_faults Choice (looked ms) ≡ [] → rules_of ms ≡ [] → ⊥
choice_has ms none no_tree = some_trees (find (codes "members") ms) none (sym (trees_found ms) ∙ no_tree)

both_true : (a b : Bool) → a ≡ true → b ≡ true → (a && b) ≡ true
both_true true true e f = refl
both_true true false e f = f
both_true false b e f = e

content_by : (b : Bool) (value : Json) (ms : Members) → cond b (under (step (codes "content")) (rule_faults value)) (faults_at_content ms) ≡ []
    → (rule_faults value ≡ [] → has_choices (rule_of value) ≡ true) → (faults_at_content ms ≡ [] → has_choices (content_of ms) ≡ true) → has_choices (cond b (rule_of value) (content_of ms)) ≡ true
content_by true value ms none here rest = here (above (step (codes "content")) (rule_faults value) none)
content_by false value ms none here rest = rest none

members_by : (b : Bool) (value : Json) (ms : Members) → cond b (under (step (codes "members")) (array_faults value)) (faults_at_members ms) ≡ []
    → (array_faults value ≡ [] → all_fine (array_rules value) ≡ true) → (faults_at_members ms ≡ [] → all_fine (rules_of ms) ≡ true) → all_fine (cond b (array_rules value) (rules_of ms)) ≡ true
members_by true value ms none here rest = here (above (step (codes "members")) (array_faults value) none)
members_by false value ms none here rest = rest none

mutual
  rule_fine : (j : Json) → rule_faults j ≡ [] → has_choices (rule_of j) ≡ true
  rule_fine null none = of_blank
  rule_fine (boolean b) none = of_blank
  rule_fine (number s) none = of_blank
  rule_fine (string s) none = of_blank
  rule_fine (array js) none = of_blank
  rule_fine (object ms) none =
      typed_fine (type_of (find (codes "type") ms)) (looked ms) (content_of ms) (rules_of ms) (faults_at_content ms) (faults_at_members ms) none (content_fine ms) (members_fine ms) (choice_has ms)

  content_fine : (ms : Members) → faults_at_content ms ≡ [] → has_choices (content_of ms) ≡ true
  content_fine no_members none = of_blank
  content_fine (member name value ms) none = content_by (bytes_eq name (codes "content")) value ms none (rule_fine value) (content_fine ms)

  members_fine : (ms : Members) → faults_at_members ms ≡ [] → all_fine (rules_of ms) ≡ true
  members_fine no_members none = refl
  members_fine (member name value ms) none = members_by (bytes_eq name (codes "members")) value ms none (array_fine value) (members_fine ms)

  array_fine : (j : Json) → array_faults j ≡ [] → all_fine (array_rules j) ≡ true
  array_fine null none = refl
  array_fine (boolean b) none = refl
  array_fine (number s) none = refl
  array_fine (string s) none = refl
  array_fine (object ms) none = refl
  array_fine (array js) none = items_fine 0 js none

  items_fine : (k : ℕ) (js : Items) → item_faults k js ≡ [] → all_fine (item_rules js) ≡ true
  items_fine k no_items none = refl
  items_fine k (item j js) none =
      let both = parts (under (place k) (rule_faults j)) (item_faults (suc k) js) none in
      both_true (has_choices (rule_of j)) (all_fine (item_rules js)) (rule_fine j (above (place k) (rule_faults j) both.0)) (items_fine (suc k) js both.1)

-- ---- what the tests on the object at `rules` say

pub record IsMember (ms : Members) (k : ℕ) (rule : Bytes × Rule) : Type 0 where
  pub name : slice_get (names ms) k ≡ Some rule.0
  pub value : Json
  pub tree : rule.1 ≡ rule_of value
  pub fine : rule_faults value ≡ []

first_of : Bytes × Rule → Option (Bytes × Rule) → Bytes × Rule
first_of d None = d
first_of d (Some r) = r

same_rule : (a b : Bytes × Rule) → ◌≡◌ {A = Option (Bytes × Rule)} (Some a) (Some b) → ◌≡◌ {A = Bytes × Rule} a b
unfolding first_of
same_rule a b e = ap (first_of a) e

is_member : (ms : Members) → each_rule ms ≡ [] → (k : ℕ) (rule : Bytes × Rule) → slice_get (named_rules ms) k ≡ Some rule → IsMember ms k rule
is_member no_members none k rule at = absurd (let apart : ◌≡◌ {A = Option (Bytes × Rule)} None (Some rule) = at in cc)
is_member (member name value ms) none zero rule at =
    let both = parts (under (step name) (rule_faults value)) (each_rule ms) none in
    let same = same_rule (name, rule_of value) rule at in
    record {
      name = ap (λ (r : Bytes × Rule). Some r.0) same;
      value = value;
      tree = ap (λ (r : Bytes × Rule). r.1) (sym same);
      fine = above (step name) (rule_faults value) both.0;
    }
is_member (member name value ms) none (suc k) rule at =
    let both = parts (under (step name) (rule_faults value)) (each_rule ms) none in
    let rest = is_member ms both.1 k rule at in
    record { name = rest.name; value = rest.value; tree = rest.tree; fine = rest.fine }

has_name : (ms : Members) → have_names ms ≡ true → (k : ℕ) (name : Bytes) → slice_get (names ms) k ≡ Some name → name ≢ []
has_name no_members all k name at = absurd (let apart : ◌≡◌ {A = Option Bytes} None (Some name) = at in cc)
has_name (member [] value ms) all k name at = absurd (let apart : false ≡ true = all in cc)
has_name (member (byte ∷ rest) value ms) all zero name at = λ empty.
    let here : ◌≡◌ {A = Option Bytes} (Some (byte ∷ rest)) (Some name) = at in
    let apart : byte ∷ rest ≡ [] = (let e : byte ∷ rest ≡ name = cc in e ∙ empty) in cc
has_name (member (byte ∷ rest) value ms) all (suc k) name at = has_name ms all k name at

-- a name that is none of these stands nowhere among them
not_there : (name : Bytes) (ns : List Bytes) → IsNone name ns → (k : ℕ) → slice_get ns k ≡ Some name → ⊥
not_there name [] none k at = let apart : ◌≡◌ {A = Option Bytes} None (Some name) = at in cc
not_there name (n ∷ ns) none zero at = let same : ◌≡◌ {A = Option Bytes} (Some n) (Some name) = at in none.0 (let e : name ≡ n = cc in e)
not_there name (n ∷ ns) none (suc k) at = not_there name ns none.1 k at

one_place : (ns : List Bytes) → AreDistinct ns → (j k : ℕ) (name : Bytes) → slice_get ns j ≡ Some name → slice_get ns k ≡ Some name → j ≡ k
one_place [] distinct j k name at to = absurd (let apart : ◌≡◌ {A = Option Bytes} None (Some name) = at in cc)
one_place (n ∷ ns) distinct zero zero name at to = refl
one_place (n ∷ ns) distinct zero (suc k) name at to =
    let same : ◌≡◌ {A = Option Bytes} (Some n) (Some name) = at in
    absurd (not_there n ns distinct.0 k (to ∙ sym same))
one_place (n ∷ ns) distinct (suc j) zero name at to =
    let same : ◌≡◌ {A = Option Bytes} (Some n) (Some name) = to in
    absurd (not_there n ns distinct.0 j (at ∙ sym same))
one_place (n ∷ ns) distinct (suc j) (suc k) name at to = ap (λ (i : ℕ). suc i) (one_place ns distinct.1 j k name at to)

rules_length : (ms : Members) → length (named_rules ms) ≡ length (names ms)
rules_length no_members = refl
rules_length (member name value ms) = ap (λ (n : ℕ). suc n) (rules_length ms)

few : (ms : Members) → limit_faults ms ≡ [] → length (names ms) ≤ 4096
few ms none = by (nat_lt 4096 (length (names ms))) refl none
  where
    by : (b : Bool) → nat_lt 4096 (length (names ms)) ≡ b → cond b (Limit Rules ∷ []) [] ≡ [] → length (names ms) ≤ 4096
    by true is gone = absurd (let apart : Limit Rules ∷ [] ≡ [] = gone in cc)
    by false is gone = grind (arith, nat_tests)

true_if : (b : Bool) → wrong_if_not b ≡ [] → b ≡ true
true_if true none = refl
true_if false none = absurd (none_wrong none)

some_named : (ms : Members) → are_named ms ≡ true → (have_names ms ≡ true) × (named_rules ms ≢ [])
some_named no_members is = absurd (let apart : false ≡ true = is in cc)
some_named (member name value ms) is = (is, λ none. (let apart : (name, rule_of value) ∷ named_rules ms ≡ [] = none in cc))

-- ---- the file

-- the value at `rules` is an object whose rules are without fault
record AreRules (v : Option Json) : Type 0 where
  members : Members
  there : v ≡ Some (object members)
  named : are_named members ≡ true
  limit : limit_faults members ≡ []
  each : each_rule members ≡ []

are_rules : (v : Option Json) → must (codes "rules") rules_faults v ≡ [] → AreRules v
are_rules None none = absurd (cc)
are_rules (Some null) none = absurd (cc)
are_rules (Some (boolean b)) none = absurd (cc)
are_rules (Some (number s)) none = absurd (cc)
are_rules (Some (string s)) none = absurd (cc)
are_rules (Some (array js)) none = absurd (cc)
are_rules (Some (object ms)) none =
    let fs = above (step (codes "rules")) (rules_faults (object ms)) none in
    let one = parts (wrong_if_not (are_named ms)) (limit_faults ms ++ each_rule ms) fs in
    let two = parts (limit_faults ms) (each_rule ms) one.1 in
    record { members = ms; there = refl; named = true_if (are_named ms) one.0; limit = two.0; each = two.1 }

found_distinct : (wanted : Bytes) (ms : Members) (j : Json) → MembersHaveDistinctNames ms → find wanted ms ≡ Some j → HasDistinctNames j
found_distinct wanted no_members j distinct at = absurd (let apart : ◌≡◌ {A = Option Json} None (Some j) = at in cc)
found_distinct wanted (member name value ms) j distinct at = by (bytes_eq name wanted) at (found_distinct wanted ms j distinct.1)
  where
    by : (b : Bool) → cond b (Some value) (find wanted ms) ≡ Some j → (find wanted ms ≡ Some j → HasDistinctNames j) → HasDistinctNames j
    by true here rest = let same : value ≡ j = cc in subst HasDistinctNames same distinct.0
    by false here rest = rest here

extras_fine : (v : Option Json) → may (codes "extras") array_faults v ≡ [] → all_fine (extras_in v) ≡ true
extras_fine None none = refl
extras_fine (Some j) none = array_fine j (above (step (codes "extras")) (array_faults j) none)

left_true : (a b : Bool) → (a && b) ≡ true → a ≡ true
left_true true b both = refl
left_true false b both = both

right_true : (a b : Bool) → (a && b) ≡ true → b ≡ true
right_true true b both = both
right_true false b both = absurd (let apart : false ≡ true = both in cc)

each_fine : (rs : List Rule) → all_fine rs ≡ true → (k : ℕ) (r : Rule) → slice_get rs k ≡ Some r → has_choices r ≡ true
each_fine [] all k r at = absurd (let apart : ◌≡◌ {A = Option Rule} None (Some r) = at in cc)
each_fine (one ∷ rs) all zero r at =
    let same : one ≡ r = (let w : ◌≡◌ {A = Option Rule} (Some one) (Some r) = at in cc) in
    ap has_choices (sym same) ∙ left_true (has_choices one) (all_fine rs) all
each_fine (one ∷ rs) all (suc k) r at = each_fine rs (right_true (has_choices one) (all_fine rs) all) k r at

file_well_formed : (ms : Members) → HasDistinctNames (object ms) → member_faults (file_members ms) ≡ [] → IsWellFormed (grammar_of (object ms))
file_well_formed ms distinct none =
    let m = file_members ms in
    let one = parts _ _ none in
    let two = parts _ _ one.1 in
    let three = parts _ _ two.1 in
    let four = parts _ _ three.1 in
    let rules = are_rules m.rules two.0 in
    let same : rules_in m.rules ≡ named_rules rules.members = ap rules_in rules.there in
    let ok = some_named rules.members rules.named in
    let apart : AreDistinct (names rules.members) = (found_distinct (codes "rules") ms (object rules.members) distinct.1 rules.there).0 in
    let at : (k : ℕ) (rule : Bytes × Rule) → slice_get (rules_in m.rules) k ≡ Some rule → IsMember rules.members k rule
    = λ k rule is. is_member rules.members rules.each k rule (ap (λ (rs : List (Bytes × Rule)). slice_get rs k) (sym same) ∙ is) in
    record {
      some_rule = λ empty. ok.1 (sym same ∙ empty);
      few_rules = subst (λ (n : ℕ). n ≤ 4096) (sym (ap (λ (rs : List (Bytes × Rule)). length rs) same ∙ rules_length rules.members)) (few rules.members rules.limit);
      named = λ k rule is. has_name rules.members ok.0 k rule.0 (at k rule is).name;
      apart = λ j k a b is to e. one_place (names rules.members) apart j k a.0 (at j a is).name ((at k b to).name ∙ ap (λ (n : Bytes). Some n) (sym e));
      choices = λ k rule is. ap has_choices (at k rule is).tree ∙ rule_fine (at k rule is).value (at k rule is).fine;
      extras = λ k tree is. each_fine (extras_in m.extras) (extras_fine m.extras four.0) k tree is;
    }

pub well_formed : (g : Grammar) (value : Json) → HasDistinctNames value → IsGrammar value g → IsWellFormed g
well_formed g null distinct is = absurd (none_wrong is.faultless)
well_formed g (boolean b) distinct is = absurd (none_wrong is.faultless)
well_formed g (number s) distinct is = absurd (none_wrong is.faultless)
well_formed g (string s) distinct is = absurd (none_wrong is.faultless)
well_formed g (array js) distinct is = absurd (none_wrong is.faultless)
well_formed g (object ms) distinct is = subst IsWellFormed (sym is.stands) (file_well_formed ms distinct is.faultless)
