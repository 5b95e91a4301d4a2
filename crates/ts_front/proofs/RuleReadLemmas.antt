-- The texts and numbers of a grammar that a JSON value stands for are typed, where the value's texts
-- are.
use Rattle.std.proofs.Common.{◌≡◌, sym, subst, refl, ℕ, zero, suc, ℤ, pos, neg_ℤ, ◌<◌, ⊎_elim, Bool, true, false, cond, if◌then◌else◌, ◌&&◌, ◌==◌, nat_lt, List, [], ◌∷◌, map, length, drop, slice_index, Option, Some, None, option_map, unwrap_or, codes, arith}
use Rattle.std.specs.List.{Contains, AllByRecursion}
use Rattle.std.specs.Str.{IsUtf8, bytes_eq, all_ascii_digits}
use Rattle.std.specs.Str.Parse.{digits_value}
use Rattle.std.proofs.lemmas.Str.{IsUtf8-nil}
use lib.IntN.{negsuc}
use Rattle.std.proofs.lemmas.List.Elements.{Contains-append_cases}
use Rattle.ts_base.specs.Bytes.{Bytes}
use Rattle.ts_ojson.specs.Json.{Json, null, boolean, number, string, array, object, Items, no_items, item, Members, no_members, member}
use Rattle.ts_core.specs.declared.rule.PrecValue.{PrecValue}
use Rattle.ts_core.specs.declared.rule.Rule.{Rule}
use Rattle.ts_core.specs.declared.rule.Rule.TheFolds.{map-Rule}
use Rattle.ts_core.specs.declared.rule.Rule.TheOpen.{Rule-F}
use Rattle.ts_core.specs.declared.rule.Rule.TheVariants as rule
use Rattle.ts_core.specs.declared.rule.Rule.TheVariants.{rolls-Blank, rolls-Literal, rolls-Pattern, rolls-Symbol, rolls-Seq, rolls-Choice, rolls-Repeat, rolls-Repeat1, rolls-Token, rolls-ImmediateToken, rolls-Field, rolls-Alias, rolls-Prec, rolls-PrecLeft, rolls-PrecRight, rolls-PrecDynamic}
use Rattle.ts_core.specs.declared.rule.Rule.TheViews.{roll-Rule, out-roll-Rule}
use Rattle.spec_tables.specs.Fit.{IfThere}
use Rattle.ts_grammar_json.specs.Kinds.{whole_of, integer_of, positive_of, negative_of, is_numeral_below, precedence_of, read_or, text_in, flags_of, truth_of}
use Rattle.ts_grammar_json.specs.Members.{find}
use Rattle.ts_grammar_json.specs.Rules.{Looked, looked, type_of, type_of_word, known_type, type_named, typed_tree, precedence_in, rule_of, content_of, rules_of, array_rules, item_rules}
use Rattle.ts_rules.specs.Sights.{Sight, SeenBelow, seen_all, below, below_step, sights_within}
use Rattle.ts_front.specs.Typed.{IsNumber, IsTypedValue, IsTypedLayer, IsTypedSight, AreTyped}
use Rattle.ts_front.proofs.InsideLemmas.{seen_below, below_roll}
use Rattle.ts_front.proofs.JsonTextLemmas.{HasTexts, ItemsHaveTexts, MembersHaveTexts}
use Rattle.ts_front.proofs.MemberLemmas.{none_in, member_cases}
use Rattle.ts_front.proofs.StepLemmas.{zero_number}

-- all that is seen in the tree is typed
abbrev pub IsTypedTree : Rule → Type 0
IsTypedTree t = (inside : Bool) → AreTyped (sights_within t inside)

-- ---- a tree by its type

by_layer : (layer : Rule-F Rule) (t : Rule) → roll-Rule layer ≡ t → IsTypedLayer layer → ((inside : Bool) → AreTyped (below_step (map-Rule Rule SeenBelow seen_below layer) inside)) → IsTypedTree t
by_layer layer t is typed rest = subst IsTypedTree is (λ inside s w. ⊎_elim
    (λ e. subst IsTypedSight (sym e) (subst IsTypedLayer (sym (out-roll-Rule layer)) typed))
    (λ later. rest inside s (subst (λ (all : List Sight). Contains all s) (below_roll layer inside) later))
    (member_cases (record { tree = roll-Rule layer; inside = inside }) s (below (roll-Rule layer) inside) w))

nothing : AreTyped []
nothing s w = absurd (none_in s w)

all_below : (ts : List Rule) → AllByRecursion IsTypedTree ts → (inside : Bool) → AreTyped (seen_all (map seen_below ts) inside)
all_below [] all inside = nothing
all_below (t ∷ ts) all inside = λ s w. ⊎_elim (λ here. all.0 inside s here) (λ later. all_below ts all.1 inside s later)
    (Contains-append_cases (sights_within t inside) (seen_all (map seen_below ts) inside) s w)

blank_tree : IsTypedTree rule.Blank
blank_tree = by_layer Rule-F.Blank rule.Blank rolls-Blank tt (λ inside. nothing)

-- ---- members

choose : {X : Type 0} (P : X → Type 0) (b : Bool) (x y : X) → P x → P y → P (cond b x y)
choose P true x y h k = h
choose P false x y h k = k

abbrev pub IsTextual : Option Json → Type 0
IsTextual = IfThere HasTexts

pub find_textual : (name : Bytes) (ms : Members) → MembersHaveTexts ms → IsTextual (find name ms)
find_textual name no_members h = tt
find_textual name (member own value ms) h = choose IsTextual (bytes_eq own name) (Some value) (find name ms) h.1 (find_textual name ms h.2)

pub text_typed : (o : Option Json) → IsTextual o → IsUtf8 (text_in o)
text_typed None h = IsUtf8-nil
text_typed (Some null) h = IsUtf8-nil
text_typed (Some (boolean b)) h = IsUtf8-nil
text_typed (Some (number s)) h = IsUtf8-nil
text_typed (Some (string s)) h = h
text_typed (Some (array js)) h = IsUtf8-nil
text_typed (Some (object ms)) h = IsUtf8-nil

-- ---- whole numbers

both_true : (a b : Bool) → (a && b) ≡ true → (a ≡ true) × (b ≡ true)
both_true true b e = (refl, e)
both_true false b e = absurd cc

below_bound : (a b : ℕ) → nat_lt a b ≡ true → a < b
below_bound a b e = grind arith

numeral_below : (bound : ℕ) (digits : Bytes) → is_numeral_below bound digits ≡ true → digits_value 10 digits < bound
numeral_below bound digits e =
    let both = both_true (nat_lt 0 (length digits) && all_ascii_digits digits) (nat_lt (digits_value 10 digits) bound) e in
    below_bound (digits_value 10 digits) bound both.1

positive_number : (n : ℕ) → n < 2147483648 → IsNumber (pos n)
positive_number n lt = omega (arith, lt)

negative_number : (n : ℕ) → n < 2147483649 → IsNumber (neg_ℤ (pos n))
negative_number zero lt = zero_number
negative_number (suc n) lt = let h : IsNumber (negsuc n) = omega (arith, lt) in h

positive_fits : (digits : Bytes) → IfThere IsNumber (positive_of digits)
positive_fits digits = by (is_numeral_below 2147483648 digits) refl
  where
    by : (b : Bool) → is_numeral_below 2147483648 digits ≡ b → IfThere IsNumber (if b then Some (pos (digits_value 10 digits)) else None)
    by true e = positive_number (digits_value 10 digits) (numeral_below 2147483648 digits e)
    by false e = tt

negative_fits : (digits : Bytes) → IfThere IsNumber (negative_of digits)
negative_fits digits = by (is_numeral_below 2147483649 digits) refl
  where
    by : (b : Bool) → is_numeral_below 2147483649 digits ≡ b → IfThere IsNumber (if b then Some (neg_ℤ (pos (digits_value 10 digits))) else None)
    by true e = negative_number (digits_value 10 digits) (numeral_below 2147483649 digits e)
    by false e = tt

integer_fits : (spelling : Bytes) → IfThere IsNumber (integer_of spelling)
integer_fits spelling = by (slice_index spelling 0 == 45)
  where
    by : (b : Bool) → IfThere IsNumber (if b then negative_of (drop 1 spelling) else positive_of spelling)
    by true = negative_fits (drop 1 spelling)
    by false = positive_fits spelling

value_or : (o : Option ℤ) → IfThere IsNumber o → IsTypedValue (unwrap_or (option_map PrecValue.Number o) (PrecValue.Number (pos 0)))
value_or None h = zero_number
value_or (Some value) h = h

whole_or : (o : Option ℤ) → IfThere IsNumber o → IsNumber (unwrap_or o (pos 0))
whole_or None h = zero_number
whole_or (Some value) h = h

value_typed : (o : Option Json) → IsTextual o → IsTypedValue (read_or (PrecValue.Number (pos 0)) precedence_of o)
value_typed None h = zero_number
value_typed (Some null) h = zero_number
value_typed (Some (boolean b)) h = zero_number
value_typed (Some (number s)) h = value_or (integer_of s) (integer_fits s)
value_typed (Some (string s)) h = h
value_typed (Some (array js)) h = zero_number
value_typed (Some (object ms)) h = zero_number

whole_typed : (o : Option Json) → IsNumber (read_or (pos 0) whole_of o)
whole_typed None = zero_number
whole_typed (Some null) = zero_number
whole_typed (Some (boolean b)) = zero_number
whole_typed (Some (number s)) = whole_or (integer_of s) (integer_fits s)
whole_typed (Some (string s)) = zero_number
whole_typed (Some (array js)) = zero_number
whole_typed (Some (object ms)) = zero_number

-- ---- types

-- a relation on what a function of several arguments makes of the first of them
abbrev Makes : {R A B C D : Type 0} → (D → Type 0) → (R → A → B → C → D) → A → B → C → R → Type 0
Makes P f a b c r = P (f r a b c)

abbrev After : {Q R : Type 0} → (R → Type 0) → (Q → R) → Q → Type 0
After P f q = P (f q)

module _ (m : Looked) (value_is : IsTextual m.value) (name_is : IsTextual m.name) (content : Rule) (members : List Rule) (content_is : IsTypedTree content) (members_are : AllByRecursion IsTypedTree members) where
  named_typed : (word : Bytes) → After (Makes IsTypedTree typed_tree m content members) known_type (type_named word)
  named_typed word =
      choose (After (Makes IsTypedTree typed_tree m content members) known_type) (bytes_eq word (codes "BLANK")) _ _ blank_tree
      (choose (After (Makes IsTypedTree typed_tree m content members) known_type) (bytes_eq word (codes "STRING")) _ _
      (by_layer (Rule-F.Literal (text_in m.value)) (rule.Literal (text_in m.value)) (rolls-Literal (text_in m.value)) (text_typed m.value value_is) (λ inside. nothing))
      (choose (After (Makes IsTypedTree typed_tree m content members) known_type) (bytes_eq word (codes "PATTERN")) _ _
      (by_layer (Rule-F.Pattern (text_in m.value) (read_or false flags_of m.flags)) (rule.Pattern (text_in m.value) (read_or false flags_of m.flags)) (rolls-Pattern (text_in m.value) (read_or false flags_of m.flags)) (text_typed m.value value_is) (λ inside. nothing))
      (choose (After (Makes IsTypedTree typed_tree m content members) known_type) (bytes_eq word (codes "SYMBOL")) _ _
      (by_layer (Rule-F.Symbol (text_in m.name)) (rule.Symbol (text_in m.name)) (rolls-Symbol (text_in m.name)) (text_typed m.name name_is) (λ inside. nothing))
      (choose (After (Makes IsTypedTree typed_tree m content members) known_type) (bytes_eq word (codes "SEQ")) _ _
      (by_layer (Rule-F.Seq members) (rule.Seq members) (rolls-Seq members) tt (all_below members members_are))
      (choose (After (Makes IsTypedTree typed_tree m content members) known_type) (bytes_eq word (codes "CHOICE")) _ _
      (by_layer (Rule-F.Choice members) (rule.Choice members) (rolls-Choice members) tt (all_below members members_are))
      (choose (After (Makes IsTypedTree typed_tree m content members) known_type) (bytes_eq word (codes "REPEAT")) _ _
      (by_layer (Rule-F.Repeat content) (rule.Repeat content) (rolls-Repeat content) tt content_is)
      (choose (After (Makes IsTypedTree typed_tree m content members) known_type) (bytes_eq word (codes "REPEAT1")) _ _
      (by_layer (Rule-F.Repeat1 content) (rule.Repeat1 content) (rolls-Repeat1 content) tt content_is)
      (choose (After (Makes IsTypedTree typed_tree m content members) known_type) (bytes_eq word (codes "TOKEN")) _ _
      (by_layer (Rule-F.Token content) (rule.Token content) (rolls-Token content) tt (λ inside. content_is true))
      (choose (After (Makes IsTypedTree typed_tree m content members) known_type) (bytes_eq word (codes "IMMEDIATE_TOKEN")) _ _
      (by_layer (Rule-F.ImmediateToken content) (rule.ImmediateToken content) (rolls-ImmediateToken content) tt (λ inside. content_is true))
      (choose (After (Makes IsTypedTree typed_tree m content members) known_type) (bytes_eq word (codes "FIELD")) _ _
      (by_layer (Rule-F.Field (text_in m.name) content) (rule.Field (text_in m.name) content) (rolls-Field (text_in m.name) content) (text_typed m.name name_is) content_is)
      (choose (After (Makes IsTypedTree typed_tree m content members) known_type) (bytes_eq word (codes "ALIAS")) _ _
      (by_layer (Rule-F.Alias content (read_or false truth_of m.named) (text_in m.value)) (rule.Alias content (read_or false truth_of m.named) (text_in m.value)) (rolls-Alias content (read_or false truth_of m.named) (text_in m.value)) (text_typed m.value value_is) content_is)
      (choose (After (Makes IsTypedTree typed_tree m content members) known_type) (bytes_eq word (codes "PREC")) _ _
      (by_layer (Rule-F.Prec (precedence_in m) content) (rule.Prec (precedence_in m) content) (rolls-Prec (precedence_in m) content) (value_typed m.value value_is) content_is)
      (choose (After (Makes IsTypedTree typed_tree m content members) known_type) (bytes_eq word (codes "PREC_LEFT")) _ _
      (by_layer (Rule-F.PrecLeft (precedence_in m) content) (rule.PrecLeft (precedence_in m) content) (rolls-PrecLeft (precedence_in m) content) (value_typed m.value value_is) content_is)
      (choose (After (Makes IsTypedTree typed_tree m content members) known_type) (bytes_eq word (codes "PREC_RIGHT")) _ _
      (by_layer (Rule-F.PrecRight (precedence_in m) content) (rule.PrecRight (precedence_in m) content) (rolls-PrecRight (precedence_in m) content) (value_typed m.value value_is) content_is)
      (choose (After (Makes IsTypedTree typed_tree m content members) known_type) (bytes_eq word (codes "PREC_DYNAMIC")) _ _
      (by_layer (Rule-F.PrecDynamic (read_or (pos 0) whole_of m.value) content) (rule.PrecDynamic (read_or (pos 0) whole_of m.value) content) (rolls-PrecDynamic (read_or (pos 0) whole_of m.value) content) (whole_typed m.value) content_is)
      blank_tree)))))))))))))))

  word_typed : (word : Bytes) → Makes IsTypedTree typed_tree m content members (type_of_word word)
  word_typed word = choose (Makes IsTypedTree typed_tree m content members) (bytes_eq word (codes "RESERVED")) _ _ blank_tree (named_typed word)

  type_typed : (o : Option Json) → Makes IsTypedTree typed_tree m content members (type_of o)
  type_typed None = blank_tree
  type_typed (Some null) = blank_tree
  type_typed (Some (boolean b)) = blank_tree
  type_typed (Some (number s)) = blank_tree
  type_typed (Some (string word)) = word_typed word
  type_typed (Some (array js)) = blank_tree
  type_typed (Some (object ms)) = blank_tree

-- ---- trees

mutual
  pub rule_typed : (j : Json) → HasTexts j → IsTypedTree (rule_of j)
  rule_typed null h = blank_tree
  rule_typed (boolean b) h = blank_tree
  rule_typed (number s) h = blank_tree
  rule_typed (string s) h = blank_tree
  rule_typed (array js) h = blank_tree
  rule_typed (object ms) h =
      type_typed (looked ms) (find_textual (codes "value") ms h) (find_textual (codes "name") ms h) (content_of ms) (rules_of ms) (content_typed ms h) (rules_typed ms h) (find (codes "type") ms)

  content_typed : (ms : Members) → MembersHaveTexts ms → IsTypedTree (content_of ms)
  content_typed no_members h = blank_tree
  content_typed (member name value ms) h = choose IsTypedTree (bytes_eq name (codes "content")) (rule_of value) (content_of ms) (rule_typed value h.1) (content_typed ms h.2)

  rules_typed : (ms : Members) → MembersHaveTexts ms → AllByRecursion IsTypedTree (rules_of ms)
  rules_typed no_members h = tt
  rules_typed (member name value ms) h = choose (AllByRecursion IsTypedTree) (bytes_eq name (codes "members")) (array_rules value) (rules_of ms) (array_typed value h.1) (rules_typed ms h.2)

  pub array_typed : (j : Json) → HasTexts j → AllByRecursion IsTypedTree (array_rules j)
  array_typed null h = tt
  array_typed (boolean b) h = tt
  array_typed (number s) h = tt
  array_typed (string s) h = tt
  array_typed (array js) h = items_typed js h
  array_typed (object ms) h = tt

  items_typed : (js : Items) → ItemsHaveTexts js → AllByRecursion IsTypedTree (item_rules js)
  items_typed no_items h = tt
  items_typed (item value js) h = (rule_typed value h.0, items_typed js h.1)
