-- The members of a grammar file: names of rules, rules one after another, and what has to be empty.
use Rattle.std.proofs.Common.{◌≡◌, ◌≢◌, ◌∙◌, sym, ap, refl, subst, ℕ, suc, ◌+◌, ◌<◌, ◌≤◌, ◌↔◌, ◌⊎◌, inl, inr, Bool, true, false, cond, ◌==◌, nat_lt, arith, List, [], ◌∷◌, ◌++◌, append_assoc, length, get_or, drop, Option, Some, None, Result, Ok, Err}
use Rattle.ts_base.specs.Bytes.{Bytes}
use Rattle.ts_ojson.specs.declared.value.OJson.{OJson}
use Rattle.ts_ojson.specs.Json.{Json, json_of, null, boolean, number, string, array, object, Items, Members, member, names}
use Rattle.std.specs.Bool.{IsTrue}
use Rattle.std.specs.Result.{IfOk, IfErr, IsErrAnd}
use Rattle.std.proofs.lemmas.Bool.Decides.{nat_tests}
use Rattle.ts_core.specs.declared.rule.Rule.{Rule}
use Rattle.ts_core.specs.declared.rule.Grammar.{Grammar}
use Rattle.ts_core.specs.declared.limits.Limited.TheVariants.{Rules}
use Rattle.ts_grammar_json.specs.declared.fault.GFault.{GFault}
use Rattle.ts_grammar_json.specs.declared.fault.GFault.TheVariants.{Missing, Wrong, UnknownType, External, Reserved, Limit, Memory}
use Rattle.ts_grammar_json.specs.Pointer.{step}
use Rattle.ts_grammar_json.specs.Members.{items_json, members_json}
use Rattle.ts_grammar_json.specs.Kinds.{array_of, object_of}
use Rattle.ts_grammar_json.specs.Faults.{under, first}
use Rattle.ts_grammar_json.specs.Rules.{rule_faults, rule_of}
use Rattle.ts_grammar_json.specs.File.{have_names, are_named, wrong_if_not, limit_faults, each_rule, rules_faults, named_rules, rules_in, external_faults, FileMembers, file_members, member_faults, members_grammar, file_faults, grammar_of, IsGrammar, IsFault}
use Rattle.ts_grammar_json.specs.Found.{Gives, emptiness}
use Rattle.ts_grammar_json.proofs.FoundLemmas.{members_split}
use Rattle.ts_grammar_json.proofs.ListLemmas.{first_before}
use Rattle.ts_grammar_json.proofs.RuleLemmas.{object_is}

-- ---- names

no_name : (name : Bytes) (value : Json) (ms : Members) → name ≡ [] → have_names (member name value ms) ≡ false
no_name [] value ms is = refl
no_name (byte ∷ name) value ms is = cc

a_name : (name : Bytes) (value : Json) (ms : Members) → (name ≡ [] → ⊥) → have_names (member name value ms) ≡ have_names ms
a_name [] value ms is = absurd (is refl)
a_name (byte ∷ name) value ms is = refl

pub nameless : (all : List (Bytes × OJson)) (i : ℕ) (m : Bytes × OJson) → i < length all → m ≡ get_or all i m → m.0 ≡ []
    → have_names (members_json all) ≡ have_names (members_json (drop i all)) → have_names (members_json all) ≡ false
nameless all i m lt at none so_far = so_far ∙ ap have_names (members_split all i m lt at) ∙ no_name m.0 (json_of m.1) (members_json (drop (i + 1) all)) none

pub named_on : (all : List (Bytes × OJson)) (i : ℕ) (m : Bytes × OJson) → i < length all → m ≡ get_or all i m → (m.0 ≡ [] → ⊥)
    → have_names (members_json all) ≡ have_names (members_json (drop i all)) → have_names (members_json all) ≡ have_names (members_json (drop (i + 1) all))
named_on all i m lt at some so_far = so_far ∙ ap have_names (members_split all i m lt at) ∙ a_name m.0 (json_of m.1) (members_json (drop (i + 1) all)) some

pub is_none : (b : Bool) (P : Type 0) → (IsTrue b ↔ P) → b ≡ true → P
is_none b P h is = h.0 is

pub is_some : (b : Bool) (P : Type 0) → (IsTrue b ↔ P) → b ≡ false → P → ⊥
is_some b P h is here = let holds : b ≡ true = h.1 here in let apart : false ≡ true = sym is ∙ holds in cc

-- ---- rules

pub record RulesSoFar (all : List (Bytes × OJson)) (i : ℕ) (out : List (Bytes × Rule)) : Type 0 where
  pub none_yet : each_rule (members_json all) ≡ each_rule (members_json (drop i all))
  pub read_yet : named_rules (members_json all) ≡ out ++ named_rules (members_json (drop i all))

pub next_rule : (all : List (Bytes × OJson)) (i : ℕ) (m : Bytes × OJson) (out : List (Bytes × Rule)) (x : Bytes × Rule) → i < length all → m ≡ get_or all i m
    → under (step m.0) (rule_faults (json_of m.1)) ≡ [] → x ≡ (m.0, rule_of (json_of m.1)) → RulesSoFar all i out → RulesSoFar all (i + 1) (out ++ x ∷ [])
next_rule all i m out x lt at none is so = record {
  none_yet =
      so.none_yet
      ∙ ap each_rule (members_split all i m lt at)
      ∙ ap (λ (own : List GFault). own ++ each_rule (members_json (drop (i + 1) all))) none;
  read_yet =
      so.read_yet
      ∙ ap (λ (ms : Members). out ++ named_rules ms) (members_split all i m lt at)
      ∙ ap (λ (y : Bytes × Rule). out ++ y ∷ named_rules (members_json (drop (i + 1) all))) (sym is)
      ∙ sym (append_assoc out (x ∷ []) (named_rules (members_json (drop (i + 1) all))));
}

pub rules_stop : (all : List (Bytes × OJson)) (i : ℕ) (m : Bytes × OJson) (out : List (Bytes × Rule)) (fault : GFault) → i < length all → m ≡ get_or all i m
    → first (under (step m.0) (rule_faults (json_of m.1))) ≡ Some fault → RulesSoFar all i out → first (each_rule (members_json all)) ≡ Some fault
rules_stop all i m out fault lt at is so =
    ap first (so.none_yet ∙ ap each_rule (members_split all i m lt at))
    ∙ first_before (under (step m.0) (rule_faults (json_of m.1))) (each_rule (members_json (drop (i + 1) all))) fault is

-- ---- what has to be empty

some_not : (n : ℕ) → (suc n == 0) ≡ false
some_not n = grind (arith, nat_tests)

pub no_externals : (js : List OJson) → (length js == 0) ≡ true → external_faults (array (items_json js)) ≡ []
no_externals [] is = refl
no_externals (j ∷ js) is = absurd (let apart : false ≡ true = sym (some_not (length js)) ∙ is in cc)

pub some_externals : (js : List OJson) → (length js == 0) ≡ false → first (external_faults (array (items_json js))) ≡ Some External
some_externals [] is = absurd (let apart : true ≡ false = is in cc)
some_externals (j ∷ js) is = refl

array_is : (j : Json) (js : Items) → Some js ≡ array_of j → j ≡ array js
array_is null js is = cc
array_is (boolean b) js is = cc
array_is (number s) js is = cc
array_is (string s) js is = cc
array_is (array is') js is = let same : js ≡ is' = cc in ap array (sym same)
array_is (object ns) js is = cc

pub external_gives : (j : Json) (js : Items) (r : Result (Unit {0}) GFault) → Some js ≡ array_of j → Gives (external_faults (array js)) tt r → Gives (external_faults j) tt r
external_gives j js r is gives = subst (λ (i : Json). Gives (external_faults i) tt r) (sym (array_is j js is)) gives

array_emptiness : (js : List OJson) → Some (length js == 0) ≡ emptiness (array (items_json js))
array_emptiness [] = refl
array_emptiness (j ∷ js) = ap (λ (b : Bool). Some b) (some_not (length js))

object_emptiness : (ms : List (Bytes × OJson)) → Some (length ms == 0) ≡ emptiness (object (members_json ms))
object_emptiness [] = refl
object_emptiness (m ∷ ms) = ap (λ (b : Bool). Some b) (some_not (length ms))

pub empty_array : (j : Json) (js : List OJson) (b : Bool) → Some (items_json js) ≡ array_of j → b ≡ (length js == 0) → Some b ≡ emptiness j
empty_array j js b is e = ap (λ (c : Bool). Some c) e ∙ array_emptiness js ∙ ap emptiness (sym (array_is j (items_json js) is))

pub empty_object : (j : Json) (ms : List (Bytes × OJson)) (b : Bool) → Some (members_json ms) ≡ object_of j → b ≡ (length ms == 0) → Some b ≡ emptiness j
empty_object j ms b is e = ap (λ (c : Bool). Some c) e ∙ object_emptiness ms ∙ ap emptiness (sym (object_is j (members_json ms) is))

-- ---- the object at `rules`

pub named_if_some : (all : List (Bytes × OJson)) → (length all == 0) ≡ false → have_names (members_json all) ≡ are_named (members_json all)
named_if_some [] is = absurd (let apart : true ≡ false = is in cc)
named_if_some (m ∷ all) is = refl

names_length : (all : List (Bytes × OJson)) → length (names (members_json all)) ≡ length all
names_length [] = refl
names_length (m ∷ all) = ap (λ (n : ℕ). suc n) (names_length all)

over : (n : ℕ) → 4096 < n → nat_lt 4096 n ≡ true
over n h = grind (arith, nat_tests)

not_over : (n : ℕ) → n ≤ 4096 → nat_lt 4096 n ≡ false
not_over n h = grind (arith, nat_tests)

limit_is : (b : Bool) (all : List (Bytes × OJson)) → nat_lt 4096 (length all) ≡ b → limit_faults (members_json all) ≡ cond b (Limit Rules ∷ []) []
limit_is b all is = ap (λ (c : Bool). cond c (Limit Rules ∷ []) []) (ap (nat_lt 4096) (names_length all) ∙ is)

pub limited : (all : List (Bytes × OJson)) → are_named (members_json all) ≡ true → 4096 < length all → first (rules_faults (object (members_json all))) ≡ Some (Limit Rules)
limited all named more =
    ap (λ (b : Bool). first (wrong_if_not b ++ (limit_faults (members_json all) ++ each_rule (members_json all)))) named
    ∙ ap (λ (fs : List GFault). first (fs ++ each_rule (members_json all))) (limit_is true all (over (length all) more))

rules_are : (all : List (Bytes × OJson)) → are_named (members_json all) ≡ true → length all ≤ 4096 → rules_faults (object (members_json all)) ≡ each_rule (members_json all)
rules_are all named few =
    ap (λ (b : Bool). wrong_if_not b ++ (limit_faults (members_json all) ++ each_rule (members_json all))) named
    ∙ ap (λ (fs : List GFault). fs ++ each_rule (members_json all)) (limit_is false all (not_over (length all) few))

pub counted : (all : List (Bytes × OJson)) (r : Result (List (Bytes × Rule)) GFault) → are_named (members_json all) ≡ true → length all ≤ 4096
    → Gives (each_rule (members_json all)) (named_rules (members_json all)) r → Gives (rules_faults (object (members_json all))) (named_rules (members_json all)) r
counted all r named few gives = subst (λ (fs : List GFault). Gives fs (named_rules (members_json all)) r) (sym (rules_are all named few)) gives

pub rules_give : (j : Json) (ms : Members) (r : Result (List (Bytes × Rule)) GFault) → Some ms ≡ object_of j
    → Gives (rules_faults (object ms)) (named_rules ms) r → Gives (rules_faults j) (rules_in (Some j)) r
rules_give j ms r is gives = subst (λ (i : Json). Gives (rules_faults i) (rules_in (Some i)) r) (sym (object_is j ms is)) gives

pub rule_named : (a b : Bytes) (x y : Rule) → a ≡ b → x ≡ y → ◌≡◌ {A = Bytes × Rule} (a, x) (b, y)
rule_named a b x y e f =
    let one : ◌≡◌ {A = Bytes × Rule} (a, x) (b, x) = ap (λ (n : Bytes). (n, x)) e in
    let two : ◌≡◌ {A = Bytes × Rule} (b, x) (b, y) = ap (λ (t : Rule). (b, t)) f in
    one ∙ two

-- ---- the file

pub after : (own rest : List GFault) (fault : GFault) → own ≡ [] → first rest ≡ Some fault → first (own ++ rest) ≡ Some fault
after own rest fault none is = ap (λ (fs : List GFault). first (fs ++ rest)) none ∙ is

pub file_gives : (j : Json) (ms : Members) (m : FileMembers) (r : Result Grammar GFault) → Some ms ≡ object_of j → m ≡ file_members ms
    → Gives (member_faults m) (members_grammar m) r → Gives (file_faults j) (grammar_of j) r
file_gives j ms m r is same gives =
    subst (λ (i : Json). Gives (file_faults i) (grammar_of i) r) (sym (object_is j ms is)) (subst (λ (l : FileMembers). Gives (member_faults l) (members_grammar l) r) same gives)

pub gives_grammar : (j : Json) (r : Result Grammar GFault) → Gives (file_faults j) (grammar_of j) r → IfOk r (λ g. IsGrammar j g)
gives_grammar j (Ok g) gives = record { faultless = gives.0; stands = gives.1 }
gives_grammar j (Err e) gives = tt

pub gives_fault : (j : Json) (r : Result Grammar GFault) → Gives (file_faults j) (grammar_of j) r → IfErr r (λ e. IsFault e j)
gives_fault j (Ok g) gives = tt
gives_fault j (Err e) gives = gives

faulty : (fs : List GFault) (e : GFault) → first fs ≡ Some e → fs ≡ [] → ⊥
faulty fs e is none = let apart : None ≡ Some e = sym (ap first none) ∙ is in cc

pub gives_no_grammar : (j : Json) (r : Result Grammar GFault) → Gives (file_faults j) (grammar_of j) r → IfErr r (λ e. e ≢ Memory → (g : Grammar) → IsGrammar j g → ⊥)
gives_no_grammar j (Ok g) gives = tt
gives_no_grammar j (Err e) gives = λ other g is. faulty (file_faults j) e (gives other) is.faultless

same_fault : (e f : GFault) (o : Option GFault) → o ≡ Some e → o ≡ Some f → e ≡ f
same_fault e f o a b = cc

or_memory : (e f : GFault) → (e ≢ Memory → e ≡ f) → (e ≡ f) ⊎ (e ≡ Memory)
or_memory (Missing p) f same = inl (same (λ h. cc))
or_memory (Wrong p) f same = inl (same (λ h. cc))
or_memory (UnknownType p) f same = inl (same (λ h. cc))
or_memory External f same = inl (same (λ h. cc))
or_memory Reserved f same = inl (same (λ h. cc))
or_memory (Limit l) f same = inl (same (λ h. cc))
or_memory Memory f same = inr refl

pub gives_exact : (j : Json) (r : Result Grammar GFault) → Gives (file_faults j) (grammar_of j) r
    → (f : GFault) → f ≢ Memory → IsFault f j → IsErrAnd r (λ e. (e ≡ f) ⊎ (e ≡ Memory))
gives_exact j (Ok g) gives f other is = absurd (faulty (file_faults j) f (is other) gives.0)
gives_exact j (Err e) gives f other is = or_memory e f (λ h. same_fault e f (first (file_faults j)) (gives h) (is other))
