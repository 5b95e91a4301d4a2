-- The lists of a grammar and their numbers.
use Rattle.std.proofs.Common.{◌≡◌, ◌∙◌, sym, ap, subst, refl, ℕ, zero, suc, ◌+◌, ◌<◌, inl, inr, Bool, true, false, IsTrue, ◌↔◌, List, [], ◌∷◌, ◌++◌, length, slice_get, get_or, Option, Some, None, arith, if◌then◌else◌, position}
use Rattle.std.specs.List.{Contains}
use Rattle.std.specs.Str.{bytes_eq}
use Rattle.std.proofs.lemmas.Cmp.{nat_list_eq_equiv}
use Rattle.std.proofs.lemmas.List.Elements.{All-contains}
use Rattle.std.proofs.lemmas.Option.{slice_get_within, get_or_from_slice_get}
use Rattle.ts_base.proofs.ByteLemmas.{same_bytes, bytes_same, bytes_apart}
use Rattle.ts_base.specs.Bytes.{Bytes}
use Rattle.ts_core.specs.declared.flat.Alias.{Alias}
use Rattle.ts_core.specs.declared.rule.Grammar.{Grammar}
use Rattle.ts_core.specs.declared.rule.Rule.{Rule}
use Rattle.ts_rules.specs.Causes.{IsBadInline, names_of, rule_names}
use Rattle.ts_rules.specs.FileGrammar.{IsFileGrammar}
use Rattle.ts_rules.specs.FirstSights.{Not, AreFirstSights, Picks, end, taken, left, Clear}
use Rattle.ts_rules.specs.Numbers.{Lists, AreLists, AreNumbers, HasSymbol, IsInlined, NamesToken, NamesSome, IsRepeated, first_rule, first_repetition, first_inlined}
use Rattle.ts_rules.specs.Sights.{NamedRule, alias, walk, rule_sights, tokens_in, contents_in, fields_in, precs_in, aliases_in, ranked_names}
use Rattle.ts_numbering.specs.Places.{number_or, named_number, numbers_by, place_of_name, same_tree, same_alias, token_number}
use Rattle.ts_numbering.specs.Surveys.{IsInlinedRule, NamesItsToken, AreContents, tree_named}
use Rattle.ts_numbering.proofs.ApartLemmas.{Apart, apart_tail, sights_apart, as_long, some_sights, place_is, place_none}
use Rattle.ts_numbering.proofs.FirstSightLemmas.{there, at_of}
use Rattle.ts_numbering.proofs.SameLemmas.{tree_same, tree_laws, alias_same, alias_laws}
use Rattle.ts_numbering.proofs.SurveyLemmas.{picked, picks_all, named_at, name_at, named_rule, name_of_rule, names_picked}

names_same : (a b : Bytes) → bytes_eq a b ≡ true → a ≡ b
names_same a b = same_bytes a b

-- ---- how many there are

one_pick : {X : Type 0} (P : X → Type 0) (xs ys zs : List X) → Picks P xs ys → Picks P xs zs → ys ≡ zs
one_pick P _ _ _ end end = refl
one_pick P _ _ _ (taken x xs ys p rest) (taken y vs zs q more) = ap (λ (ws : List _). x ∷ ws) (one_pick P xs ys zs rest more)
one_pick P _ _ _ (taken x xs ys p rest) (left y vs zs q more) = absurd (q p)
one_pick P _ _ _ (left x xs ys p rest) (taken y vs zs q more) = absurd (p q)
one_pick P _ _ _ (left x xs ys p rest) (left y vs zs q more) = one_pick P xs ys zs rest more

names_as_long : (seen xs ys : List Bytes) → AreFirstSights seen xs → AreFirstSights seen ys → length xs ≡ length ys
names_as_long = as_long bytes_eq names_same nat_list_eq_equiv

trees_as_long : (seen xs ys : List Rule) → AreFirstSights seen xs → AreFirstSights seen ys → length xs ≡ length ys
trees_as_long = as_long same_tree tree_same tree_laws

contents_as_long : (g : Grammar) (xs ys : List Rule) → AreContents g xs → AreContents g ys → length xs ≡ length ys
contents_as_long g xs ys a b =
    let e : b.0 ≡ a.0 = one_pick IsRepeated (contents_in (rule_sights g)) b.0 a.0 b.1 a.1 in
    trees_as_long a.0 xs ys a.2 (subst (λ (seen : List Rule). AreFirstSights seen ys) e b.2)

-- all lists of one grammar are equally long
pub same_symbols : (g : Grammar) (x y : Lists) → AreLists g x → AreLists g y → first_inlined x ≡ first_inlined y
same_symbols g x y a b =
    let t = trees_as_long (tokens_in (rule_sights g)) x.tokens y.tokens a.tokens b.tokens in
    let r = ap (λ (rules : List NamedRule). length rules) (one_pick (HasSymbol g) g.rules x.rules y.rules a.rules b.rules) in
    let c = contents_as_long g x.contents y.contents a.contents b.contents in
    omega (arith, t, r, c)

pub same_fields : (g : Grammar) (x y : Lists) → AreLists g x → AreLists g y → length x.fields ≡ length y.fields
same_fields g x y a b = names_as_long (fields_in (walk g)) x.fields y.fields a.fields b.fields

pub same_precs : (g : Grammar) (x y : Lists) → AreLists g x → AreLists g y → length x.precs ≡ length y.precs
same_precs g x y a b = names_as_long (precs_in (walk g) ++ ranked_names g) x.precs y.precs a.precs b.precs

pub some_names : (seen : List Bytes) → (found : List Bytes) × AreFirstSights seen found
some_names = some_sights bytes_eq names_same nat_list_eq_equiv

-- ---- names of rules

names_apart : (g : Grammar) → IsFileGrammar g → Apart (names_of g.rules)
names_apart g file j k name lt e d =
    let a = named_at g.rules j name e in
    let b = named_at g.rules k name d in
    let same : j ≡ k = file.apart j k a.0 b.0 a.1 b.1 (a.2 ∙ sym b.2) in
    omega arith

-- one more name before those that are apart
apart_more : (name : Bytes) (names : List Bytes) → Not (Contains names name) → Apart names → Apart (name ∷ names)
apart_more name names new h j zero other lt e d = omega arith
apart_more name names new h zero (suc k) other lt e d =
    let f : Some name ≡ Some other = e in
    let is : other ≡ name = cc in
    new (subst (λ (n : Bytes). Contains names n) is (there names k other d))
apart_more name names new h (suc j) (suc k) other lt e d = h j k other (omega arith) e d

picked_apart : (P : NamedRule → Type 0) (xs ys : List NamedRule) → Picks P xs ys → Apart (names_of xs) → Apart (names_of ys)
picked_apart P _ _ end h = h
picked_apart P _ _ (left x xs ys p rest) h = picked_apart P xs ys rest (apart_tail x.0 (names_of xs) h)
picked_apart P _ _ (taken x xs ys p rest) h =
    apart_more x.0 (names_of ys)
    (λ w. let v : Contains (names_of xs) x.0 = names_picked P xs ys x.0 rest w in h 0 (suc v.0) x.0 (omega arith) refl (at_of (names_of xs) x.0 v))
    (picked_apart P xs ys rest (apart_tail x.0 (names_of xs) h))

-- the tree of a name that stands once
tree_at : (rules : List NamedRule) (k : ℕ) (name : Bytes) (tree : Rule) → Apart (names_of rules) → slice_get rules k ≡ Some (name, tree) → tree_named rules name ≡ Some tree
tree_at [] k name tree h e = absurd (let lt : k < 0 = slice_get_within {A = NamedRule} [] k (name, tree) e in omega arith)
tree_at (r ∷ rules) zero name tree h e =
    let f : Some r ≡ Some (name, tree) = e in
    let is : r ≡ (name, tree) = cc in
    ap (λ (x : NamedRule). if bytes_eq name x.0 then Some x.1 else tree_named rules name) is
    ∙ ap (λ (b : Bool). if b then Some tree else tree_named rules name) (bytes_same name name refl)
tree_at (r ∷ rules) (suc k) name tree h e =
    let other : bytes_eq name r.0 ≡ false = bytes_apart name r.0 (λ f. h 0 (suc k) name (omega arith) (ap Some (sym f)) (name_at rules k (name, tree) e)) in
    ap (λ (b : Bool). if b then Some r.1 else tree_named rules name) other
    ∙ tree_at rules k name tree (apart_tail r.0 (names_of rules) h) e

-- ---- tests by name

pub inlined_test : (g : Grammar) (inlined : List NamedRule) (name : Bytes) (b : Bool) → Picks (IsInlinedRule g) g.rules inlined → IsTrue b ↔ Contains (names_of inlined) name → IsTrue b ↔ IsInlined g name
inlined_test g inlined name b picks h = (
  λ t.
      let r = named_rule inlined name (h.0 t) in
      let p = picked (IsInlinedRule g) g.rules inlined r.0 picks r.1 in
      subst (λ (n : Bytes). IsInlined g n) r.2 p.1,
  λ is. h.1 (name_of_rule inlined (name, is.rule.0) (picks_all (IsInlinedRule g) g.rules inlined (name, is.rule.0) picks is.rule.1 is)),
)

pub named_test : (g : Grammar) (named : List NamedRule) (name : Bytes) (b : Bool) → Picks (NamesItsToken g) g.rules named → IsTrue b ↔ Contains (names_of named) name → IsTrue b ↔ NamesSome g name
named_test g named name b picks h = (
  λ t.
      let r = named_rule named name (h.0 t) in
      let p = picked (NamesItsToken g) g.rules named r.0 picks r.1 in
      subst (λ (n : Bytes). NamesSome g n) r.2 (r.0.1, p.1),
  λ some. h.1 (name_of_rule named (name, some.0) (picks_all (NamesItsToken g) g.rules named (name, some.0) picks some.1.is some.1)),
)

-- ---- numbers

name_place : (names : List Bytes) (k : ℕ) (name : Bytes) → Apart names → slice_get names k ≡ Some name → place_of_name names name ≡ Some k
name_place = place_is bytes_eq names_same nat_list_eq_equiv

no_place : (names : List Bytes) (name : Bytes) → Not (Contains names name) → place_of_name names name ≡ None
no_place = place_none bytes_eq names_same nat_list_eq_equiv

none_before : (k : ℕ) → 0 + k ≡ k
none_before k = omega arith

one_before : (k : ℕ) → 1 + k ≡ suc k
one_before k = omega arith

module _ (g : Grammar) (file : IsFileGrammar g) (x : Lists) (are : AreLists g x) where
  rules_apart : Apart (names_of x.rules)
  rules_apart = picked_apart (HasSymbol g) g.rules x.rules are.rules (names_apart g file)

  -- an inlined rule has no symbol
  not_own : (name : Bytes) → IsInlined g name → Not (Contains (names_of x.rules) name)
  not_own name is w =
      let r = named_rule x.rules name w in
      let p = picked (HasSymbol g) g.rules x.rules r.0 are.rules r.1 in
      let has : HasSymbol g r.0 = p.1 in
      has.kept (subst (λ (n : Bytes). IsInlined g n) (sym r.2) is)

  -- nor has one that names a token
  not_token : (name : Bytes) → NamesSome g name → Not (Contains (names_of x.rules) name)
  not_token name some w =
      let r = named_rule x.rules name w in
      let p = picked (HasSymbol g) g.rules x.rules r.0 are.rules r.1 in
      let has : HasSymbol g r.0 = p.1 in
      has.unnamed (subst (λ (n : Bytes). NamesSome g n) (sym r.2) some)

  module _ (named : List NamedRule) (aliases : List Alias) (picks : Picks (NamesItsToken g) g.rules named) (seen : AreFirstSights (aliases_in (walk g)) aliases) where
    -- what a name's number is where it is no rule with a symbol
    abbrev others : Bytes → ℕ
    others name = number_or (named_number x.tokens (tree_named named name)) (first_inlined x) (place_of_name (names_of x.inlined) name)

    own_number : (k : ℕ) (rule : NamedRule) → slice_get x.rules k ≡ Some rule → number_or (others rule.0) (first_rule x) (place_of_name (names_of x.rules) rule.0) ≡ first_rule x + k
    own_number k rule e = ap (number_or (others rule.0) (first_rule x)) (name_place (names_of x.rules) k rule.0 rules_apart (name_at x.rules k rule e))

    inlined_number : (k : ℕ) (rule : NamedRule) → slice_get x.inlined k ≡ Some rule
        → number_or (number_or (named_number x.tokens (tree_named named rule.0)) (first_inlined x) (place_of_name (names_of x.inlined) rule.0)) (first_rule x) (place_of_name (names_of x.rules) rule.0)
        ≡ first_inlined x + k
    inlined_number k rule e =
        let p = picked (IsInlinedRule g) g.rules x.inlined rule are.inlined (there x.inlined k rule e) in
        let apart : Apart (names_of x.inlined) = picked_apart (IsInlinedRule g) g.rules x.inlined are.inlined (names_apart g file) in
        ap (number_or (number_or (named_number x.tokens (tree_named named rule.0)) (first_inlined x) (place_of_name (names_of x.inlined) rule.0)) (first_rule x)) (no_place (names_of x.rules) rule.0 (not_own rule.0 p.1))
        ∙ ap (number_or (named_number x.tokens (tree_named named rule.0)) (first_inlined x)) (name_place (names_of x.inlined) k rule.0 apart (name_at x.inlined k rule e))

    -- a rule that names a token is not inlined, where no inlined rule is bad
    token_kept : Clear (IsBadInline g) (rule_names g) → (name : Bytes) (tree : Rule) → NamesToken g name tree → Not (Contains (names_of x.inlined) name)
    token_kept clear name tree n w =
        let r = named_rule x.inlined name w in
        let p = picked (IsInlinedRule g) g.rules x.inlined r.0 are.inlined r.1 in
        let is : IsInlined g name = subst (λ (n : Bytes). IsInlined g n) r.2 p.1 in
        All-contains (λ (n : Bytes). Not (IsBadInline g n)) (rule_names g) name clear (name_of_rule g.rules (name, tree) n.is) (record { inlined = is; cause = inr (inl (tree, n)) })

    named_by : Clear (IsBadInline g) (rule_names g) → (name : Bytes) (tree : Rule) → NamesToken g name tree
        → number_or (number_or (named_number x.tokens (tree_named named name)) (first_inlined x) (place_of_name (names_of x.inlined) name)) (first_rule x) (place_of_name (names_of x.rules) name)
        ≡ token_number x.tokens tree
    named_by clear name tree n =
        let w : Contains named (name, tree) = picks_all (NamesItsToken g) g.rules named (name, tree) picks n.is n in
        let apart : Apart (names_of named) = picked_apart (NamesItsToken g) g.rules named picks (names_apart g file) in
        ap (number_or (number_or (named_number x.tokens (tree_named named name)) (first_inlined x) (place_of_name (names_of x.inlined) name)) (first_rule x)) (no_place (names_of x.rules) name (not_token name (tree, n)))
        ∙ ap (number_or (named_number x.tokens (tree_named named name)) (first_inlined x)) (no_place (names_of x.inlined) name (token_kept clear name tree n))
        ∙ ap (named_number x.tokens) (tree_at named w.0 name tree apart (at_of named (name, tree) w))

    alias_back : (a : Alias) → Contains (aliases_in (walk g)) a → get_or aliases (number_or 0 0 (position (same_alias a) aliases)) (alias [] false) ≡ a
    alias_back a w =
        let v : Contains aliases a = seen.every a w in
        let e : slice_get aliases v.0 ≡ Some a = at_of aliases a v in
        ap (λ (place : Option ℕ). get_or aliases (number_or 0 0 place) (alias [] false)) (place_is same_alias alias_same alias_laws aliases v.0 a (sights_apart (aliases_in (walk g)) aliases seen) e)
        ∙ ap (λ (k : ℕ). get_or aliases k (alias [] false)) (none_before v.0) ∙ get_or_from_slice_get aliases v.0 a (alias [] false) e

    pub are_numbers : Clear (IsBadInline g) (rule_names g) → AreNumbers g (numbers_by x named aliases) x
    are_numbers clear = record {
      tokens = λ k tree e. ap (number_or 0 1) (place_is same_tree tree_same tree_laws x.tokens k tree (sights_apart (tokens_in (rule_sights g)) x.tokens are.tokens) e) ∙ one_before k;
      rules = λ k rule e. own_number k rule e;
      named = λ name tree n. named_by clear name tree n;
      contents = λ k content e. ap (number_or 0 (first_repetition x)) (place_is same_tree tree_same tree_laws x.contents k content (sights_apart are.contents.0 x.contents are.contents.2) e);
      inlined = λ k rule e. inlined_number k rule e;
      fields = λ k name e. ap (number_or 0 0) (name_place x.fields k name (sights_apart (fields_in (walk g)) x.fields are.fields) e) ∙ none_before k;
      precs = λ k name e. ap (number_or 0 0) (name_place x.precs k name (sights_apart (precs_in (walk g) ++ ranked_names g) x.precs are.precs) e) ∙ none_before k;
      aliases = λ a w. alias_back a w;
    }
