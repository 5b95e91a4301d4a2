-- No text and no list of a grammar is longer than the file that it was read from.
use Rattle.std.proofs.Common.{arith, ◌≡◌, ◌∙◌, sym, ap, refl, subst, ℕ, zero, suc, ◌+◌, ◌≤◌, Bool, true, false, cond, ◌&&◌, nat_le, List, [], ◌∷◌, map, length, slice_get, Option, Some, None, Result, Ok, Err, codes}
use Rattle.std.specs.Prelude.{All, option_map, unwrap_or, pos, ℤ}
use Rattle.std.specs.Str.{bytes_eq}
use Rattle.std.specs.List.{list_all}
use Rattle.std.proofs.lemmas.Bool.Decides.{nat_tests}
use Rattle.std.proofs.lemmas.List.{length-map}
use Rattle.std.proofs.lemmas.List.Elements.{All-nil, All-cons}
use Rattle.ts_base.specs.Bytes.{Bytes}
use Rattle.ts_ojson.specs.declared.value.OJson.{OJson}
use Rattle.ts_ojson.specs.Json.{Json, json_of, null, boolean, number, string, array, object, Items, no_items, item, Members, no_members, member}
use Rattle.ts_ojson.specs.Reads.{Reads}
use Rattle.ts_core.specs.declared.rule.PrecValue.{PrecValue}
use Rattle.ts_core.specs.declared.rule.PrecValue.TheVariants as prec
use Rattle.ts_core.specs.declared.rule.Ranked.{Ranked}
use Rattle.ts_core.specs.declared.rule.Ranked.TheVariants as ranked
use Rattle.ts_core.specs.declared.rule.Rule.{Rule}
use Rattle.ts_core.specs.declared.rule.Rule.TheVariants as rule
use Rattle.ts_core.specs.declared.rule.Rule.TheVariants.{rolls-Blank, rolls-Literal, rolls-Pattern, rolls-Symbol, rolls-Seq, rolls-Choice, rolls-Repeat, rolls-Repeat1, rolls-Token, rolls-ImmediateToken, rolls-Field, rolls-Alias, rolls-Prec, rolls-PrecLeft, rolls-PrecRight, rolls-PrecDynamic}
use Rattle.ts_core.specs.declared.rule.Rule.TheOpen.{Rule-F}
use Rattle.ts_core.specs.declared.rule.Rule.TheFolds.{fold-roll-Rule}
use Rattle.ts_core.specs.declared.rule.Rule.TheViews.{roll-Rule}
use Rattle.ts_core.specs.declared.rule.Grammar.{Grammar}
use Rattle.ts_grammar_json.specs.declared.rule_type.RuleType.{RuleType}
use Rattle.ts_grammar_json.specs.declared.rule_type.RuleType.TheVariants.{Blank, Literal, Pattern, Symbol, Seq, Choice, Repeat, Repeat1, Token, ImmediateToken, Field, Alias, Prec, PrecLeft, PrecRight, PrecDynamic}
use Rattle.ts_grammar_json.specs.declared.fault.GFault.{GFault}
use Rattle.ts_grammar_json.specs.Members.{find}
use Rattle.ts_grammar_json.specs.Kinds.{text_in, integer_of, precedence_of, word_of, read_or}
use Rattle.ts_grammar_json.specs.Rules.{Looked, looked, type_of, typed_tree, tree_of, rule_of, content_of, rules_of, array_rules, item_rules}
use Rattle.ts_grammar_json.specs.File.{Entry, by_name, by_rule, entry_of, ranked_by, ranked_of, named_rules, rules_in, each_read, list_of, list_in, text_at, extras_in, file_members, members_grammar, grammar_of, IsGrammar}
use Rattle.ts_grammar_json.specs.WellFormed.{is_true}
use Rattle.ts_grammar_json.specs.ShortParts.{is_within, has_name_within, within_step, has_parts_within, ListWithin, TextWithin, EntryWithin, HasPartsWithin}
use Rattle.ts_grammar_json.proofs.TextLemmas.{count_items, Within, ItemsWithin, MembersWithin, text_within}

is_short : {X : Type 0} (n : ℕ) (xs : List X) → length xs ≤ n → is_within n xs ≡ true
is_short n xs le = grind (arith, nat_tests)

both_true : (a b : Bool) → a ≡ true → b ≡ true → (a && b) ≡ true
both_true true b e f = f
both_true false b e f = e

-- ---- one law for each variant

all_short : ℕ → List Rule → Bool
all_short n rs = list_all is_true (map (has_parts_within n) rs)

made_of : (n : ℕ) (tree : Rule) (layer : Rule-F Rule) (found : Bool) → roll-Rule layer ≡ tree
    → has_parts_within n (roll-Rule layer) ≡ found → found ≡ true → has_parts_within n tree ≡ true
made_of n tree layer found e is fine = ap (has_parts_within n) (sym e) ∙ is ∙ fine

of_blank : (n : ℕ) → has_parts_within n rule.Blank ≡ true
of_blank n = made_of n _ Rule-F.Blank _ rolls-Blank (fold-roll-Rule Bool (within_step n) Rule-F.Blank) refl

of_literal : (n : ℕ) (s : Bytes) → length s ≤ n → has_parts_within n (rule.Literal s) ≡ true
of_literal n s le = made_of n _ (Rule-F.Literal s) _ (rolls-Literal s) (fold-roll-Rule Bool (within_step n) (Rule-F.Literal s)) (is_short n s le)

of_pattern : (n : ℕ) (s : Bytes) (b : Bool) → length s ≤ n → has_parts_within n (rule.Pattern s b) ≡ true
of_pattern n s b le = made_of n _ (Rule-F.Pattern s b) _ (rolls-Pattern s b) (fold-roll-Rule Bool (within_step n) (Rule-F.Pattern s b)) (is_short n s le)

of_symbol : (n : ℕ) (s : Bytes) → length s ≤ n → has_parts_within n (rule.Symbol s) ≡ true
of_symbol n s le = made_of n _ (Rule-F.Symbol s) _ (rolls-Symbol s) (fold-roll-Rule Bool (within_step n) (Rule-F.Symbol s)) (is_short n s le)

mapped_short : (n : ℕ) (rs : List Rule) → length rs ≤ n → is_within n (map (has_parts_within n) rs) ≡ true
mapped_short n rs le = let e : length (map (has_parts_within n) rs) ≡ length rs = length-map rs (has_parts_within n) in is_short n (map (has_parts_within n) rs) (omega (arith, e, le))

of_seq : (n : ℕ) (rs : List Rule) → length rs ≤ n → all_short n rs ≡ true → has_parts_within n (rule.Seq rs) ≡ true
unfolding all_short
of_seq n rs le all = made_of n _ (Rule-F.Seq rs) _ (rolls-Seq rs) (fold-roll-Rule Bool (within_step n) (Rule-F.Seq rs)) (both_true _ _ (mapped_short n rs le) all)

of_choice : (n : ℕ) (rs : List Rule) → length rs ≤ n → all_short n rs ≡ true → has_parts_within n (rule.Choice rs) ≡ true
unfolding all_short
of_choice n rs le all = made_of n _ (Rule-F.Choice rs) _ (rolls-Choice rs) (fold-roll-Rule Bool (within_step n) (Rule-F.Choice rs)) (both_true _ _ (mapped_short n rs le) all)

of_repeat : (n : ℕ) (r : Rule) → has_parts_within n r ≡ true → has_parts_within n (rule.Repeat r) ≡ true
of_repeat n r inner = made_of n _ (Rule-F.Repeat r) _ (rolls-Repeat r) (fold-roll-Rule Bool (within_step n) (Rule-F.Repeat r)) inner

of_repeat1 : (n : ℕ) (r : Rule) → has_parts_within n r ≡ true → has_parts_within n (rule.Repeat1 r) ≡ true
of_repeat1 n r inner = made_of n _ (Rule-F.Repeat1 r) _ (rolls-Repeat1 r) (fold-roll-Rule Bool (within_step n) (Rule-F.Repeat1 r)) inner

of_token : (n : ℕ) (r : Rule) → has_parts_within n r ≡ true → has_parts_within n (rule.Token r) ≡ true
of_token n r inner = made_of n _ (Rule-F.Token r) _ (rolls-Token r) (fold-roll-Rule Bool (within_step n) (Rule-F.Token r)) inner

of_immediate : (n : ℕ) (r : Rule) → has_parts_within n r ≡ true → has_parts_within n (rule.ImmediateToken r) ≡ true
of_immediate n r inner = made_of n _ (Rule-F.ImmediateToken r) _ (rolls-ImmediateToken r) (fold-roll-Rule Bool (within_step n) (Rule-F.ImmediateToken r)) inner

of_field : (n : ℕ) (s : Bytes) (r : Rule) → length s ≤ n → has_parts_within n r ≡ true → has_parts_within n (rule.Field s r) ≡ true
of_field n s r le inner = made_of n _ (Rule-F.Field s r) _ (rolls-Field s r) (fold-roll-Rule Bool (within_step n) (Rule-F.Field s r)) (both_true _ _ (is_short n s le) inner)

of_alias : (n : ℕ) (r : Rule) (named : Bool) (s : Bytes) → length s ≤ n → has_parts_within n r ≡ true → has_parts_within n (rule.Alias r named s) ≡ true
of_alias n r named s le inner = made_of n _ (Rule-F.Alias r named s) _ (rolls-Alias r named s) (fold-roll-Rule Bool (within_step n) (Rule-F.Alias r named s)) (both_true _ _ (is_short n s le) inner)

of_prec : (n : ℕ) (p : PrecValue) (r : Rule) → has_name_within n p ≡ true → has_parts_within n r ≡ true → has_parts_within n (rule.Prec p r) ≡ true
of_prec n p r le inner = made_of n _ (Rule-F.Prec p r) _ (rolls-Prec p r) (fold-roll-Rule Bool (within_step n) (Rule-F.Prec p r)) (both_true _ _ le inner)

of_left : (n : ℕ) (p : PrecValue) (r : Rule) → has_name_within n p ≡ true → has_parts_within n r ≡ true → has_parts_within n (rule.PrecLeft p r) ≡ true
of_left n p r le inner = made_of n _ (Rule-F.PrecLeft p r) _ (rolls-PrecLeft p r) (fold-roll-Rule Bool (within_step n) (Rule-F.PrecLeft p r)) (both_true _ _ le inner)

of_right : (n : ℕ) (p : PrecValue) (r : Rule) → has_name_within n p ≡ true → has_parts_within n r ≡ true → has_parts_within n (rule.PrecRight p r) ≡ true
of_right n p r le inner = made_of n _ (Rule-F.PrecRight p r) _ (rolls-PrecRight p r) (fold-roll-Rule Bool (within_step n) (Rule-F.PrecRight p r)) (both_true _ _ le inner)

of_dynamic : (n : ℕ) (z : ℤ) (r : Rule) → has_parts_within n r ≡ true → has_parts_within n (rule.PrecDynamic z r) ≡ true
of_dynamic n z r inner = made_of n _ (Rule-F.PrecDynamic z r) _ (rolls-PrecDynamic z r) (fold-roll-Rule Bool (within_step n) (Rule-F.PrecDynamic z r)) inner

-- ---- texts of members

FoundWithin : ℕ → Option Json → Type 0
FoundWithin n None = Unit {0}
FoundWithin n (Some j) = Within n j

find_within : (n : ℕ) (wanted : Bytes) (ms : Members) → MembersWithin n ms → FoundWithin n (find wanted ms)
unfolding FoundWithin
find_within n wanted no_members w = tt
find_within n wanted (member k j ms) w = by (bytes_eq k wanted) w.1 (find_within n wanted ms w.2)
  where
    by : (b : Bool) → Within n j → FoundWithin n (find wanted ms) → FoundWithin n (cond b (Some j) (find wanted ms))
    by true here rest = here
    by false here rest = rest

text_short : (n : ℕ) (v : Option Json) → FoundWithin n v → length (text_in v) ≤ n
unfolding FoundWithin
text_short n None w = omega arith
text_short n (Some null) w = omega arith
text_short n (Some (boolean b)) w = omega arith
text_short n (Some (number s)) w = omega arith
text_short n (Some (array js)) w = omega arith
text_short n (Some (object ms)) w = omega arith
text_short n (Some (string s)) w = w

number_short : (n : ℕ) (o : Option ℤ) → has_name_within n (unwrap_or (option_map prec.Number o) (prec.Number (pos 0))) ≡ true
number_short n None = refl
number_short n (Some z) = refl

prec_short : (n : ℕ) (v : Option Json) → FoundWithin n v → has_name_within n (read_or (prec.Number (pos 0)) precedence_of v) ≡ true
unfolding FoundWithin
prec_short n None w = refl
prec_short n (Some null) w = refl
prec_short n (Some (boolean b)) w = refl
prec_short n (Some (number s)) w = number_short n (integer_of s)
prec_short n (Some (array js)) w = refl
prec_short n (Some (object ms)) w = refl
prec_short n (Some (string s)) w = is_short n s w

-- ---- rules

tree_short : (n : ℕ) (t : RuleType) (m : Looked) (content : Rule) (members : List Rule) → FoundWithin n m.value → FoundWithin n m.name
    → length members ≤ n → has_parts_within n content ≡ true → all_short n members ≡ true → has_parts_within n (tree_of t m content members) ≡ true
tree_short n Blank m content members value name few inner all = of_blank n
tree_short n Literal m content members value name few inner all = of_literal n _ (text_short n m.value value)
tree_short n Pattern m content members value name few inner all = of_pattern n _ _ (text_short n m.value value)
tree_short n Symbol m content members value name few inner all = of_symbol n _ (text_short n m.name name)
tree_short n Seq m content members value name few inner all = of_seq n members few all
tree_short n Choice m content members value name few inner all = of_choice n members few all
tree_short n Repeat m content members value name few inner all = of_repeat n content inner
tree_short n Repeat1 m content members value name few inner all = of_repeat1 n content inner
tree_short n Token m content members value name few inner all = of_token n content inner
tree_short n ImmediateToken m content members value name few inner all = of_immediate n content inner
tree_short n Field m content members value name few inner all = of_field n _ content (text_short n m.name name) inner
tree_short n Alias m content members value name few inner all = of_alias n content _ _ (text_short n m.value value) inner
tree_short n Prec m content members value name few inner all = of_prec n _ content (prec_short n m.value value) inner
tree_short n PrecLeft m content members value name few inner all = of_left n _ content (prec_short n m.value value) inner
tree_short n PrecRight m content members value name few inner all = of_right n _ content (prec_short n m.value value) inner
tree_short n PrecDynamic m content members value name few inner all = of_dynamic n _ content inner

typed_short : (n : ℕ) (r : Result RuleType GFault) (m : Looked) (content : Rule) (members : List Rule) → FoundWithin n m.value → FoundWithin n m.name
    → length members ≤ n → has_parts_within n content ≡ true → all_short n members ≡ true → has_parts_within n (typed_tree r m content members) ≡ true
typed_short n (Err fault) m content members value name few inner all = of_blank n
typed_short n (Ok t) m content members value name few inner all = tree_short n t m content members value name few inner all

item_count : (js : Items) → length (item_rules js) ≡ count_items js
item_count no_items = refl
item_count (item j js) = ap (λ (k : ℕ). suc k) (item_count js)

array_count : (n : ℕ) (j : Json) → Within n j → length (array_rules j) ≤ n
array_count n null w = omega arith
array_count n (boolean b) w = omega arith
array_count n (number s) w = omega arith
array_count n (string s) w = omega arith
array_count n (object ms) w = omega arith
array_count n (array js) w = let e = item_count js in let le : count_items js ≤ n = w.0 in omega (arith, e, le)

rules_count : (n : ℕ) (ms : Members) → MembersWithin n ms → length (rules_of ms) ≤ n
rules_count n no_members w = omega arith
rules_count n (member k j ms) w = by (bytes_eq k (codes "members")) (array_count n j w.1) (rules_count n ms w.2)
  where
    by : (b : Bool) → length (array_rules j) ≤ n → length (rules_of ms) ≤ n → length (cond b (array_rules j) (rules_of ms)) ≤ n
    by true here rest = here
    by false here rest = rest

content_by : (n : ℕ) (b : Bool) (one other : Rule) → has_parts_within n one ≡ true → has_parts_within n other ≡ true → has_parts_within n (cond b one other) ≡ true
content_by n true one other here rest = here
content_by n false one other here rest = rest

members_by : (n : ℕ) (b : Bool) (one other : List Rule) → all_short n one ≡ true → all_short n other ≡ true → all_short n (cond b one other) ≡ true
members_by n true one other here rest = here
members_by n false one other here rest = rest

none_short : (n : ℕ) → all_short n [] ≡ true
unfolding all_short
none_short n = refl

more_short : (n : ℕ) (r : Rule) (rs : List Rule) → has_parts_within n r ≡ true → all_short n rs ≡ true → all_short n (r ∷ rs) ≡ true
unfolding all_short
more_short n r rs one rest = both_true (has_parts_within n r) (all_short n rs) one rest

mutual
  rule_short : (n : ℕ) (j : Json) → Within n j → has_parts_within n (rule_of j) ≡ true
  rule_short n null w = of_blank n
  rule_short n (boolean b) w = of_blank n
  rule_short n (number s) w = of_blank n
  rule_short n (string s) w = of_blank n
  rule_short n (array js) w = of_blank n
  rule_short n (object ms) w =
      typed_short n (type_of (find (codes "type") ms)) (looked ms) (content_of ms) (rules_of ms) (find_within n (codes "value") ms w) (find_within n (codes "name") ms w) (rules_count n ms w) (content_short n ms w) (rules_short n ms w)

  content_short : (n : ℕ) (ms : Members) → MembersWithin n ms → has_parts_within n (content_of ms) ≡ true
  content_short n no_members w = of_blank n
  content_short n (member k j ms) w = content_by n (bytes_eq k (codes "content")) (rule_of j) (content_of ms) (rule_short n j w.1) (content_short n ms w.2)

  rules_short : (n : ℕ) (ms : Members) → MembersWithin n ms → all_short n (rules_of ms) ≡ true
  rules_short n no_members w = none_short n
  rules_short n (member k j ms) w = members_by n (bytes_eq k (codes "members")) (array_rules j) (rules_of ms) (array_short n j w.1) (rules_short n ms w.2)

  array_short : (n : ℕ) (j : Json) → Within n j → all_short n (array_rules j) ≡ true
  array_short n null w = none_short n
  array_short n (boolean b) w = none_short n
  array_short n (number s) w = none_short n
  array_short n (string s) w = none_short n
  array_short n (object ms) w = none_short n
  array_short n (array js) w = items_short n js w.1

  items_short : (n : ℕ) (js : Items) → ItemsWithin n js → all_short n (item_rules js) ≡ true
  items_short n no_items w = none_short n
  items_short n (item j js) w = more_short n (rule_of j) (item_rules js) (rule_short n j w.0) (items_short n js w.1)

-- ---- lists

nothing_there : {X P : Type 0} (x : X) → ◌≡◌ {A = Option X} None (Some x) → P
nothing_there {X = X} x e = absurd (let apart : ◌≡◌ {A = Option X} None (Some x) = e in cc)

some_or : {X : Type 0} → X → Option X → X
some_or x None = x
some_or x (Some y) = y

first_is : {X : Type 0} (a b : X) → ◌≡◌ {A = Option X} (Some a) (Some b) → a ≡ b
unfolding some_or
first_is a b e = ap (some_or a) e

read_each : {X : Type 0} (P : X → Type 0) (read : Json → X) (n : ℕ) → ((j : Json) → Within n j → P (read j))
    → (js : Items) → ItemsWithin n js → (length (each_read read js) ≡ count_items js) × All P (each_read read js)
read_each P read n one no_items w = (refl, All-nil P)
read_each P read n one (item j js) w =
    let rest = read_each P read n one js w.1 in
    (ap (λ (k : ℕ). suc k) rest.0, All-cons P (read j) (each_read read js) (one j w.0) rest.1)

none_within : {X : Type 0} (P : X → Type 0) (n : ℕ) → ListWithin n P []
none_within P n = (omega arith, All-nil P)

list_within : {X : Type 0} (P : X → Type 0) (read : Json → X) (n : ℕ) → ((j : Json) → Within n j → P (read j))
    → (j : Json) → Within n j → ListWithin n P (list_of read j)
list_within P read n one null w = none_within P n
list_within P read n one (boolean b) w = none_within P n
list_within P read n one (number s) w = none_within P n
list_within P read n one (string s) w = none_within P n
list_within P read n one (object ms) w = none_within P n
list_within P read n one (array js) w =
    let is = read_each P read n one js w.1 in
    let e = is.0 in
    let le : count_items js ≤ n = w.0 in
    (omega (arith, e, le), is.1)

found_within : {X : Type 0} (P : X → Type 0) (read : Json → X) (n : ℕ) → ((j : Json) → Within n j → P (read j))
    → (v : Option Json) → FoundWithin n v → ListWithin n P (list_in read v)
unfolding FoundWithin
found_within P read n one None w = none_within P n
found_within P read n one (Some j) w = list_within P read n one j w

text_at_short : (n : ℕ) (j : Json) → Within n j → TextWithin n (text_at j)
unfolding FoundWithin
text_at_short n j w = text_short n (Some j) w

entry_short : (n : ℕ) (r : Result Entry GFault) (m : Looked) → FoundWithin n m.value → FoundWithin n m.name → EntryWithin n (ranked_by r m)
entry_short n (Err fault) m value name = omega arith
entry_short n (Ok by_name) m value name = text_short n m.value value
entry_short n (Ok by_rule) m value name = text_short n m.name name

ranked_short : (n : ℕ) (j : Json) → Within n j → EntryWithin n (ranked_of j)
ranked_short n null w = omega arith
ranked_short n (boolean b) w = omega arith
ranked_short n (number s) w = omega arith
ranked_short n (string s) w = omega arith
ranked_short n (array js) w = omega arith
ranked_short n (object ms) w = entry_short n (entry_of (find (codes "type") ms)) (looked ms) (find_within n (codes "value") ms w) (find_within n (codes "name") ms w)

-- ---- rules and extras

record IsShortRule (n : ℕ) (one : Bytes × Rule) : Type 0 where
  name : length one.0 ≤ n
  tree : has_parts_within n one.1 ≡ true

named_at : (n : ℕ) (ms : Members) → MembersWithin n ms → (k : ℕ) (one : Bytes × Rule) → slice_get (named_rules ms) k ≡ Some one → IsShortRule n one
named_at n no_members w k one at = nothing_there one at
named_at n (member name j ms) w zero one at =
    let same = first_is (name, rule_of j) one at in
    subst (λ (r : Bytes × Rule). IsShortRule n r) same (record { name = w.0; tree = rule_short n j w.1 })
named_at n (member name j ms) w (suc k) one at = named_at n ms w.2 k one at

rule_at : (n : ℕ) (v : Option Json) → FoundWithin n v → (k : ℕ) (one : Bytes × Rule) → slice_get (rules_in v) k ≡ Some one → IsShortRule n one
unfolding FoundWithin
rule_at n None w k one at = nothing_there one at
rule_at n (Some null) w k one at = nothing_there one at
rule_at n (Some (boolean b)) w k one at = nothing_there one at
rule_at n (Some (number s)) w k one at = nothing_there one at
rule_at n (Some (string s)) w k one at = nothing_there one at
rule_at n (Some (array js)) w k one at = nothing_there one at
rule_at n (Some (object ms)) w k one at = named_at n ms w k one at

item_at : (n : ℕ) (js : Items) → ItemsWithin n js → (k : ℕ) (tree : Rule) → slice_get (item_rules js) k ≡ Some tree → has_parts_within n tree ≡ true
item_at n no_items w k tree at = nothing_there tree at
item_at n (item j js) w zero tree at = ap (has_parts_within n) (sym (first_is (rule_of j) tree at)) ∙ rule_short n j w.0
item_at n (item j js) w (suc k) tree at = item_at n js w.1 k tree at

extra_at : (n : ℕ) (v : Option Json) → FoundWithin n v → (k : ℕ) (tree : Rule) → slice_get (extras_in v) k ≡ Some tree → has_parts_within n tree ≡ true
unfolding FoundWithin
extra_at n None w k tree at = nothing_there tree at
extra_at n (Some null) w k tree at = nothing_there tree at
extra_at n (Some (boolean b)) w k tree at = nothing_there tree at
extra_at n (Some (number s)) w k tree at = nothing_there tree at
extra_at n (Some (string s)) w k tree at = nothing_there tree at
extra_at n (Some (object ms)) w k tree at = nothing_there tree at
extra_at n (Some (array js)) w k tree at = item_at n js w.1 k tree at

extras_count : (n : ℕ) (v : Option Json) → FoundWithin n v → length (extras_in v) ≤ n
unfolding FoundWithin
extras_count n None w = omega arith
extras_count n (Some j) w = array_count n j w

-- ---- the file

word_at : (n : ℕ) (v : Option Json) → FoundWithin n v → (name : Bytes) → read_or None word_of v ≡ Some name → length name ≤ n
unfolding FoundWithin
word_at n None w name at = nothing_there name at
word_at n (Some null) w name at = nothing_there name at
word_at n (Some (boolean b)) w name at = nothing_there name at
word_at n (Some (number s)) w name at = nothing_there name at
word_at n (Some (array js)) w name at = nothing_there name at
word_at n (Some (object ms)) w name at = nothing_there name at
word_at n (Some (string s)) w name at = subst (λ (x : Bytes). length x ≤ n) (first_is s name at) w

members_short : (n : ℕ) (ms : Members) → MembersWithin n ms → HasPartsWithin n (members_grammar (file_members ms))
members_short n ms w =
    let m = file_members ms in
    let there = λ (name : Bytes). find_within n name ms w in
    record {
      name = text_short n m.name (there (codes "name"));
      names = λ k one at. (rule_at n m.rules (there (codes "rules")) k one at).name;
      trees = λ k one at. (rule_at n m.rules (there (codes "rules")) k one at).tree;
      word = word_at n m.word (there (codes "word"));
      few_extras = extras_count n m.extras (there (codes "extras"));
      extras = extra_at n m.extras (there (codes "extras"));
      conflicts = found_within (ListWithin n (TextWithin n)) (list_of text_at) n (list_within (TextWithin n) text_at n (text_at_short n)) m.conflicts (there (codes "conflicts"));
      precedences = found_within (ListWithin n (EntryWithin n)) (list_of ranked_of) n (list_within (EntryWithin n) ranked_of n (ranked_short n)) m.precedences (there (codes "precedences"));
      inline = found_within (TextWithin n) text_at n (text_at_short n) m.inline (there (codes "inline"));
      supertypes = found_within (TextWithin n) text_at n (text_at_short n) m.supertypes (there (codes "supertypes"));
    }

value_short : (n : ℕ) (j : Json) → Within n j → HasPartsWithin n (grammar_of j)
value_short n null w = members_short n no_members tt
value_short n (boolean b) w = members_short n no_members tt
value_short n (number s) w = members_short n no_members tt
value_short n (string s) w = members_short n no_members tt
value_short n (array js) w = members_short n no_members tt
value_short n (object ms) w = members_short n ms w

pub short_grammar : (w : Bytes) (v : OJson) (g : Grammar) → Reads v w → IsGrammar (json_of v) g → HasPartsWithin (length w) g
short_grammar w v g reads is = subst (HasPartsWithin (length w)) (sym is.stands) (value_short (length w) (json_of v) (text_within (json_of v) w reads.text))
