-- The grammar that a grammar file stands for is typed.
use Rattle.std.proofs.Common.{◌≡◌, sym, subst, refl, ⊎_elim, false, List, [], ◌∷◌, Option, Some, None, Result, Ok, Err, codes}
use Rattle.std.specs.List.{Contains, AllByRecursion, flat_map}
use Rattle.std.specs.Str.{IsUtf8}
use Rattle.std.proofs.lemmas.Str.{IsUtf8-nil}
use Rattle.std.proofs.lemmas.List.Elements.{Contains-append_cases}
use Rattle.ts_base.specs.Bytes.{Bytes}
use Rattle.ts_ojson.specs.Json.{Json, null, boolean, number, string, array, object, Items, no_items, item, Members, no_members, member, json_of}
use Rattle.ts_ojson.specs.Reads.{Reads}
use Rattle.ts_ojson.specs.declared.value.OJson.{OJson}
use Rattle.ts_core.specs.declared.rule.Grammar.{Grammar}
use Rattle.ts_core.specs.declared.rule.Ranked.{Ranked}
use Rattle.ts_core.specs.declared.rule.Rule.{Rule}
use Rattle.ts_grammar_json.specs.File.{file_members, members_grammar, grammar_of, IsGrammar, rules_in, named_rules, extras_in, Entry, by_name, by_rule, entry_of, ranked_by, ranked_of, list_in, list_of, each_read}
use Rattle.ts_grammar_json.specs.Kinds.{text_in}
use Rattle.ts_grammar_json.specs.Members.{find}
use Rattle.ts_grammar_json.specs.Rules.{Looked, looked}
use Rattle.ts_rules.specs.Sights.{NamedRule, sights, seen_rules, rule_sights, extra_sights, ranked_name}
use Rattle.ts_front.specs.Typed.{AreTyped, IsTypedGrammar}
use Rattle.ts_front.proofs.JsonTextLemmas.{HasTexts, ItemsHaveTexts, MembersHaveTexts, read_texts}
use Rattle.ts_front.proofs.MemberLemmas.{none_in, in_flat, so_each, member_cases}
use Rattle.ts_front.proofs.RuleReadLemmas.{IsTextual, IsTypedTree, find_textual, text_typed, rule_typed, array_typed}

abbrev IsTypedNamed : NamedRule → Type 0
IsTypedNamed named = IsUtf8 named.0 × IsTypedTree named.1

named_typed : (ms : Members) → MembersHaveTexts ms → AllByRecursion IsTypedNamed (named_rules ms)
named_typed no_members h = tt
named_typed (member name value ms) h = ((h.0, rule_typed value h.1), named_typed ms h.2)

rules_typed : (o : Option Json) → IsTextual o → AllByRecursion IsTypedNamed (rules_in o)
rules_typed None h = tt
rules_typed (Some null) h = tt
rules_typed (Some (boolean b)) h = tt
rules_typed (Some (number s)) h = tt
rules_typed (Some (string s)) h = tt
rules_typed (Some (array js)) h = tt
rules_typed (Some (object ms)) h = named_typed ms h

extras_typed : (o : Option Json) → IsTextual o → AllByRecursion IsTypedTree (extras_in o)
extras_typed None h = tt
extras_typed (Some value) h = array_typed value h

-- ---- the orderings of precedences

abbrev HasTextNames : Ranked → Type 0
HasTextNames entry = (name : Bytes) → Contains (ranked_name entry) name → IsUtf8 name

only_text : (text name : Bytes) → IsUtf8 text → Contains (text ∷ []) name → IsUtf8 name
only_text text name h w = ⊎_elim (λ e. subst IsUtf8 (sym e) h) (λ none. absurd (none_in name none)) (member_cases text name [] w)

rule_names : (text : Bytes) → HasTextNames (Ranked.Rule text)
rule_names text name w = absurd (none_in name w)

own_names : (text : Bytes) → IsUtf8 text → HasTextNames (Ranked.Name text)
own_names text h name w = only_text text name h w

ranked_by_typed : {F : Type 0} (found : Result Entry F) (m : Looked) → IsTextual m.value → (made : Result Entry F → Looked → Ranked)
    → ((fault : F) → made (Err fault) m ≡ Ranked.Name []) → made (Ok by_name) m ≡ Ranked.Name (text_in m.value) → made (Ok by_rule) m ≡ Ranked.Rule (text_in m.name) → HasTextNames (made found m)
ranked_by_typed (Err fault) m h made a b c = subst HasTextNames (sym (a fault)) (own_names [] IsUtf8-nil)
ranked_by_typed (Ok by_name) m h made a b c = subst HasTextNames (sym b) (own_names (text_in m.value) (text_typed m.value h))
ranked_by_typed (Ok by_rule) m h made a b c = subst HasTextNames (sym c) (rule_names (text_in m.name))

ranked_typed : (j : Json) → HasTexts j → HasTextNames (ranked_of j)
ranked_typed null h = own_names [] IsUtf8-nil
ranked_typed (boolean b) h = own_names [] IsUtf8-nil
ranked_typed (number s) h = own_names [] IsUtf8-nil
ranked_typed (string s) h = own_names [] IsUtf8-nil
ranked_typed (array js) h = own_names [] IsUtf8-nil
ranked_typed (object ms) h = ranked_by_typed (entry_of (find (codes "type") ms)) (looked ms) (find_textual (codes "value") ms h) ranked_by (λ fault. refl) refl refl

module _ {X : Type 0} (P : X → Type 0) (read : Json → X) (to : (j : Json) → HasTexts j → P (read j)) where
  each_typed : (js : Items) → ItemsHaveTexts js → AllByRecursion P (each_read read js)
  each_typed no_items h = tt
  each_typed (item value js) h = (to value h.0, each_typed js h.1)

  list_typed : (j : Json) → HasTexts j → AllByRecursion P (list_of read j)
  list_typed null h = tt
  list_typed (boolean b) h = tt
  list_typed (number s) h = tt
  list_typed (string s) h = tt
  list_typed (array js) h = each_typed js h
  list_typed (object ms) h = tt

  list_in_typed : (o : Option Json) → IsTextual o → AllByRecursion P (list_in read o)
  list_in_typed None h = tt
  list_in_typed (Some value) h = list_typed value h

-- ---- the whole

seen_typed : (rules : List NamedRule) → AllByRecursion IsTypedNamed rules → AreTyped (seen_rules rules)
seen_typed [] all = λ s w. absurd (none_in s w)
seen_typed (rule ∷ rules) all = λ s w. ⊎_elim (λ here. all.0.1 false s here) (λ later. seen_typed rules all.1 s later)
    (Contains-append_cases (sights rule.1) (seen_rules rules) s w)

trees_typed : (trees : List Rule) → AllByRecursion IsTypedTree trees → AreTyped (flat_map sights trees)
trees_typed [] all = λ s w. absurd (none_in s w)
trees_typed (tree ∷ trees) all = λ s w. ⊎_elim (λ here. all.0 false s here) (λ later. trees_typed trees all.1 s later)
    (Contains-append_cases (sights tree) (flat_map sights trees) s w)

grammar_by : (ms : Members) → MembersHaveTexts ms → IsTypedGrammar (members_grammar (file_members ms))
grammar_by ms h =
    let g : Grammar = members_grammar (file_members ms) in
    let rules = rules_typed (find (codes "rules") ms) (find_textual (codes "rules") ms h) in
    let extras = extras_typed (find (codes "extras") ms) (find_textual (codes "extras") ms h) in
    let orders = list_in_typed (AllByRecursion HasTextNames) (list_of ranked_of) (list_typed HasTextNames ranked_of ranked_typed) (find (codes "precedences") ms) (find_textual (codes "precedences") ms h) in
    record {
      name = text_typed (find (codes "name") ms) (find_textual (codes "name") ms h);
      names = λ rule w. (so_each IsTypedNamed g.rules rules rule w).0;
      walked = λ s w. ⊎_elim (λ here. seen_typed g.rules rules s here) (λ later. trees_typed g.extras extras s later) (Contains-append_cases (rule_sights g) (extra_sights g) s w);
      ranked = λ name w.
          let r = in_flat (λ (entries : List Ranked). flat_map ranked_name entries) g.precedences name w in
          let q = in_flat ranked_name r.0 name r.2 in
          so_each HasTextNames r.0 (so_each (AllByRecursion HasTextNames) g.precedences orders r.0 r.1) q.0 q.1 name q.2;
    }

value_grammar : (j : Json) → HasTexts j → IsTypedGrammar (grammar_of j)
value_grammar null h = grammar_by no_members tt
value_grammar (boolean b) h = grammar_by no_members tt
value_grammar (number s) h = grammar_by no_members tt
value_grammar (string s) h = grammar_by no_members tt
value_grammar (array js) h = grammar_by no_members tt
value_grammar (object ms) h = grammar_by ms h

pub read_typed : (v : OJson) (w : Bytes) (g : Grammar) → Reads v w → IsGrammar (json_of v) g → IsTypedGrammar g
read_typed v w g reads is = subst IsTypedGrammar (sym is.stands) (value_grammar (json_of v) (read_texts v w reads))
