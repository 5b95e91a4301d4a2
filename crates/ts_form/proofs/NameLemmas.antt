-- The rules that name tokens, each beside its token.
use Rattle.std.proofs.Common.{◌≡◌, ◌∙◌, sym, ap, subst, refl, ℕ, zero, suc, ◌+◌, ◌-◌, ◌<◌, ◌≤◌, ◌⊎◌, inl, inr, ⊎_elim, List, [], ◌∷◌, ◌++◌, map, length, get_or, take, set, slice_get, Option, Some, None, option_map, All, MatchOption, arith}
use Rattle.std.specs.Borrow.{Bor}
use Rattle.std.specs.List.{Contains}
use Rattle.std.proofs.lemmas.Bool.{cases_lt}
use Rattle.std.proofs.lemmas.List.{take_all, take_more}
use Rattle.std.proofs.lemmas.List.Elements.{All-nil, All-cons, All-contains, Contains-append_left, Contains-append_right, Contains-append_cases}
use Rattle.std.proofs.lemmas.Option.{slice_get_within, slice_get-map, slice_get-get_or, get_or_from_slice_get}
use Rattle.ts_base.proofs.PlaceLemmas.{set_here, set_there}
use Rattle.ts_base.specs.Bytes.{Bytes}
use Rattle.ts_core.specs.declared.rule.Grammar.{Grammar}
use Rattle.ts_core.specs.declared.rule.Rule.{Rule}
use Rattle.ts_numbering.specs.declared.numbering.Numbering.{Numbering}
use Rattle.ts_numbering.specs.Keys.{rules_told, trees}
use Rattle.ts_numbering.specs.Numberings.{lists_of, numbers_of}
use Rattle.ts_numbering.specs.Surveys.{NamesItsToken}
use Rattle.ts_rules.specs.FirstSights.{Not, Picks}
use Rattle.ts_rules.specs.Numbers.{NamesSome, NamesToken}
use Rattle.ts_rules.specs.Sights.{NamedRule, rule_sights, tokens_in}
use Rattle.ts_tokens.specs.Definitions.{IsNaming, trees_of}
use Rattle.ts_tokens.specs.Extras.{AreRuleTokens}
use Rattle.ts_tokens.specs.Names.{lent}
use Rattle.ts_tokens.specs.declared.definition.NamedToken.{NamedToken}
use Rattle.ts_form.specs.Forms.{AreNamesOf, IsNameOf, IsNothing, IsNumbering, names_in}
use Rattle.ts_form.proofs.AgreeLemmas.{once_in}
use Rattle.ts_form.proofs.ListLemmas.{there, at_of, none_in, head_in, member_cases, picked, picks_all}

equal_or_not : (j k : ℕ) → (j ≡ k) ⊎ (j ≡ k → ⊥)
equal_or_not j k = ⊎_elim (λ lt. inr (λ e. omega (arith, e))) (λ ge. ⊎_elim (λ lt. inr (λ e. omega (arith, e))) (λ le. inl (omega arith)) (cases_lt k j)) (cases_lt j k)

length_set : {X : Type 0} (xs : List X) (j : ℕ) (v : X) → length (set xs j v) ≡ length xs
length_set [] j v = refl
length_set (x ∷ xs) zero v = refl
length_set (x ∷ xs) (suc j) v = ap suc (length_set xs j v)

nothing_taken : {X : Type 0} (xs : List X) → take 0 xs ≡ []
nothing_taken [] = refl
nothing_taken (x ∷ xs) = refl

pub at_place : {X : Type 0} (xs : List X) (k : ℕ) → k < length xs → (x : X) × (slice_get xs k ≡ Some x)
at_place [] k lt = absurd (omega (arith, lt))
at_place (x ∷ xs) zero lt = (x, refl)
at_place (x ∷ xs) (suc k) lt = at_place xs k (omega (arith, lt))

one_more : {X : Type 0} (xs : List X) (i : ℕ) (x : X) → slice_get xs i ≡ Some x → take (i + 1) xs ≡ take i xs ++ x ∷ []
one_more {X = X} xs i x e = take_more xs i x (slice_get_within xs i x e) ∙ ap (λ (y : X). take i xs ++ y ∷ []) (get_or_from_slice_get xs i x x e)

pub told_long : (entries : List (Bor Bytes × Bor Rule)) → length (rules_told entries) ≡ length entries
told_long [] = refl
told_long (e ∷ es) = ap suc (told_long es)

pub trees_long : (ts : List (Bor Rule)) → length (trees ts) ≡ length ts
trees_long [] = refl
trees_long (t ∷ ts) = ap suc (trees_long ts)

pub tree_there : (ts : List (Bor Rule)) (i : ℕ) (t : Bor Rule) (x : Rule) → slice_get ts i ≡ Some t → slice_get (trees ts) i ≡ Some x → t.now ≡ x
tree_there [] i t x a b = absurd (let f : None ≡ Some t = a in cc)
tree_there (u ∷ us) zero t x a b = by a b
  where
    by : Some u ≡ Some t → Some u.now ≡ Some x → t.now ≡ x
    by a b = cc
tree_there (u ∷ us) (suc i) t x a b = tree_there us i t x a b

-- ---- names beside tokens

some_none : {X : Type 0} (x : X) → None ≡ Some x → ⊥
some_none x e = cc

no_name : (rules : List NamedRule) (tree : Rule) (name : Option (Bor Bytes)) → name ≡ None → rules ≡ [] → IsNameOf rules tree name
no_name rules tree None e is = λ name w. none_in (name, tree) (subst (λ (rs : List NamedRule). Contains rs (name, tree)) is w)
no_name rules tree (Some name) e is = absurd (some_none name (sym e))

-- none is named
pub names_begin : (rules : List NamedRule) (tokens : List Rule) (names : List (Option (Bor Bytes))) → length names ≡ length tokens
    → All IsNothing names → AreNamesOf (take 0 rules) tokens names
names_begin rules tokens names count none = record {
  count = count;
  each = λ k tree name at here. no_name (take 0 rules) tree name (All-contains IsNothing names name none (there names k name here)) (nothing_taken rules);
}

still_named : (rules : List NamedRule) (rule : NamedRule) (tree : Rule) (name : Option (Bor Bytes)) → Not (rule.1 ≡ tree) → IsNameOf rules tree name → IsNameOf (rules ++ rule ∷ []) tree name
still_named rules rule tree None apart is = λ name w. ⊎_elim
    (λ v. is name v)
    (λ v. ⊎_elim (λ e. apart (sym (ap (λ (r : NamedRule). r.1) e))) (λ u. none_in (name, tree) u) (member_cases rule (name, tree) [] v))
    (Contains-append_cases rules (rule ∷ []) (name, tree) w)
still_named rules rule tree (Some name) apart is = Contains-append_left rules (rule ∷ []) (name.now, tree) is

-- one more rule, whose name goes to the place of its tree
pub names_more : (rules : List NamedRule) (tokens : List Rule) (number : Rule → ℕ) (names : List (Option (Bor Bytes))) (i place : ℕ) (name : Bor Bytes) (tree : Rule)
    → ((k : ℕ) (t : Rule) → slice_get tokens k ≡ Some t → number t ≡ suc k)
    → slice_get rules i ≡ Some (name.now, tree) → Contains tokens tree → place ≡ number tree - 1
    → AreNamesOf (take i rules) tokens names → AreNamesOf (take (i + 1) rules) tokens (set names place (Some name))
names_more rules tokens number names i place name tree numbers at token is before = record {
  count = length_set names place (Some name) ∙ before.count;
  each = λ k t found here there_too. subst (λ (rs : List NamedRule). IsNameOf rs t found) (sym (one_more rules i (name.now, tree) at)) (by k t found here there_too (equal_or_not k place));
}
  where
    at_token : slice_get tokens token.0 ≡ Some tree
    at_token = at_of tokens tree token

    place_is : place ≡ token.0
    place_is = let e = numbers token.0 tree at_token in omega (arith, is, e)

    within : place < length names
    within = let lt = token.1 in let c = before.count in omega (arith, lt, c, place_is)

    by : (k : ℕ) (t : Rule) (found : Option (Bor Bytes)) → slice_get tokens k ≡ Some t → slice_get (set names place (Some name)) k ≡ Some found
        → (k ≡ place) ⊎ (k ≡ place → ⊥) → IsNameOf (take i rules ++ (name.now, tree) ∷ []) t found
    by k t found here written (inl same) =
        let e : Some t ≡ Some tree = sym here ∙ ap (slice_get tokens) (same ∙ place_is) ∙ at_token in
        let f : t ≡ tree = cc in
        let h : Some found ≡ Some (Some name) = sym written ∙ ap (slice_get (set names place (Some name))) same ∙ set_here names place (Some name) within in
        let j : found ≡ Some name = cc in
        subst (λ (o : Option (Bor Bytes)). IsNameOf (take i rules ++ (name.now, tree) ∷ []) t o) (sym j)
        (subst (λ (u : Rule). Contains (take i rules ++ (name.now, tree) ∷ []) (name.now, u)) (sym f)
        (Contains-append_right (take i rules) ((name.now, tree) ∷ []) (name.now, tree) (head_in (name.now, tree) [])))
    by k t found here written (inr apart) =
        still_named (take i rules) (name.now, tree) t found
        (λ e. let a = numbers k t here in let b = ap number (sym e) in apart (omega (arith, is, a, b)))
        (before.each k t found here (sym (set_there names place k (Some name) apart) ∙ written))

pub names_all : (rules : List NamedRule) (tokens : List Rule) (names : List (Option (Bor Bytes))) (i : ℕ) → length rules ≤ i → AreNamesOf (take i rules) tokens names → AreNamesOf rules tokens names
names_all rules tokens names i past is = subst (λ (rs : List NamedRule). AreNamesOf rs tokens names) (take_all i rules past) is

-- ---- tokens with their names

module _ (g : Grammar) (rules : List NamedRule) (named : Picks (NamesItsToken g) g.rules rules) where
  pub naming : (name : Bytes) (tree : Rule) → Contains rules (name, tree) → NamesToken g name tree
  naming name tree w = (picked (NamesItsToken g) g.rules rules (name, tree) named w).1

  pub named_there : (name : Bytes) (tree : Rule) → NamesToken g name tree → Contains rules (name, tree)
  named_there name tree h = picks_all (NamesItsToken g) g.rules rules (name, tree) named h.is h

  by_name : (t : NamedToken) (name : Option (Bor Bytes)) → t.name ≡ name → IsNameOf rules t.tree.now name → IsNaming g t
  by_name t None e is = subst (λ (o : Option (Bor Bytes)). MatchOption o ((name : Bytes) → Not (NamesToken g name t.tree.now)) (λ name. NamesToken g name.now t.tree.now)) (sym e)
      (λ name h. is name (named_there name t.tree.now h))
  by_name t (Some name) e is = subst (λ (o : Option (Bor Bytes)). MatchOption o ((name : Bytes) → Not (NamesToken g name t.tree.now)) (λ name. NamesToken g name.now t.tree.now)) (sym e)
      (naming name.now t.tree.now is)

  mapped_at : {Y : Type 0} (f : NamedToken → Y) (found : List NamedToken) (k : ℕ) (t : NamedToken) → slice_get found k ≡ Some t → slice_get (map f found) k ≡ Some (f t)
  mapped_at f found k t e = slice_get-map f found k ∙ ap (λ (o : Option NamedToken). option_map f o) e

  all_at : (found : List NamedToken) → ((k : ℕ) (t : NamedToken) → slice_get found k ≡ Some t → IsNaming g t) → All (IsNaming g) found
  all_at [] h = All-nil (IsNaming g)
  all_at (t ∷ ts) h = All-cons (IsNaming g) t ts (h 0 t refl) (all_at ts (λ k u e. h (suc k) u e))

  pub all_named : (tokens : List Rule) (names : List (Option (Bor Bytes))) (found : List NamedToken) → AreNamesOf rules tokens names → trees_of found ≡ tokens
      → names_in found ≡ names → All (IsNaming g) found
  all_named tokens names found are is name = all_at found (λ k t e.
      by_name t t.name refl (are.each k t.tree.now t.name
      (subst (λ (ts : List Rule). slice_get ts k ≡ Some t.tree.now) is (mapped_at (λ (u : NamedToken). u.tree.now) found k t e))
      (subst (λ (ns : List (Option (Bor Bytes))). slice_get ns k ≡ Some t.name) name (mapped_at (λ (u : NamedToken). u.name) found k t e))))

-- each rule that names a token has a token of the grammar
pub rule_token : (g : Grammar) (n : Numbering) → IsNumbering g n → (i : ℕ) (rule : NamedRule) → slice_get (rules_told n.survey.named.entries) i ≡ Some rule → Contains (lists_of n).tokens rule.1
rule_token g n are i rule at =
    let h : NamesToken g rule.0 rule.1 = naming g (rules_told n.survey.named.entries) are.survey.named rule.0 rule.1 (there (rules_told n.survey.named.entries) i rule at) in
    are.lists.tokens.every rule.1 (once_in (tokens_in (rule_sights g)) rule.1 h.once)

-- the place of a rule's token
pub token_within : (tokens : List Rule) (number : Rule → ℕ) (place : ℕ) (tree : Rule) → ((k : ℕ) (t : Rule) → slice_get tokens k ≡ Some t → number t ≡ suc k)
    → Contains tokens tree → place ≡ number tree - 1 → place < length tokens
token_within tokens number place tree numbers token is =
    let e = numbers token.0 tree (at_of tokens tree token) in
    let lt = token.1 in
    omega (arith, is, e, lt)

-- ---- the token that a rule names

pub token_there : (g : Grammar) (n : Numbering) → IsNumbering g n → (tree : Rule) (name : Bytes) → NamesToken g name tree
    → (k : ℕ) × (slice_get (lists_of n).tokens k ≡ Some tree) × ((numbers_of n).rule name ≡ suc k)
token_there g n are tree name h =
    let w : Contains (lists_of n).tokens tree = are.lists.tokens.every tree (once_in (tokens_in (rule_sights g)) tree h.once) in
    let at = at_of (lists_of n).tokens tree w in
    (w.0, at, are.numbers.named name tree h ∙ are.numbers.tokens w.0 tree at)

module _ (g : Grammar) (n : Numbering) (are : IsNumbering g n) (name : Bytes) (some : NamesSome g name) (number : ℕ) (is : number ≡ (numbers_of n).rule name) where
  pub number_above : 1 ≤ number
  number_above = let r = token_there g n are some.0 name some.1 in let e = r.2 in omega (arith, is, e)

  pub number_within : (keys : List (Bor Rule)) → keys ≡ n.survey.tokens.keys → number - 1 < length keys
  number_within keys same =
      let r = token_there g n are some.0 name some.1 in
      let lt = slice_get_within (lists_of n).tokens r.0 some.0 r.1 in
      let long = trees_long n.survey.tokens.keys in
      let e = r.2 in
      let k = ap (λ (ks : List (Bor Rule)). length ks) same in
      omega (arith, is, lt, long, e, k)

  pub token_by_number : (keys : List (Bor Rule)) → keys ≡ n.survey.tokens.keys → (token : Bor Rule) → token ≡ get_or keys (number - 1) token → NamesToken g name token.now
  token_by_number keys same token at =
      let r = token_there g n are some.0 name some.1 in
      let place : number - 1 ≡ r.0 = (let e = r.2 in omega (arith, is, e)) in
      let here : slice_get keys (number - 1) ≡ Some token = slice_get-get_or keys (number - 1) token (number_within keys same) ∙ ap Some (sym at) in
      let there_too : slice_get n.survey.tokens.keys r.0 ≡ Some token
      = subst (λ (k : ℕ). slice_get n.survey.tokens.keys k ≡ Some token) place (subst (λ (ks : List (Bor Rule)). slice_get ks (number - 1) ≡ Some token) same here) in
      subst (λ (tree : Rule). NamesToken g name tree) (sym (tree_there n.survey.tokens.keys r.0 token some.0 there_too r.1)) some.1

-- the tokens of the rules, as the code has them
pub rule_tokens : (g : Grammar) (n : Numbering) → IsNumbering g n → AreRuleTokens g (lent n.survey.tokens.keys)
rule_tokens g n are tree = (are.survey.tokens.only tree, are.survey.tokens.every tree)
