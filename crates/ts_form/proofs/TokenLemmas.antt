-- A token has one definition: one name, one kind, and the same regular expression by patterns that read
-- alike.
use Rattle.std.proofs.Common.{◌≡◌, ◌∙◌, sym, ap, subst, refl, ℕ, zero, suc, ◌<◌, Bool, true, false, ◌⊎◌, inl, inr, ⊎_elim, List, [], ◌∷◌, ◌++◌, slice_get, Option, Some, None, chars, append_assoc, arith}
use Rattle.std.specs.List.{Contains}
use Rattle.std.proofs.lemmas.Bool.{cases_lt}
use Rattle.std.proofs.lemmas.List.Concat.{flat_map-append}
use Rattle.std.proofs.lemmas.List.Elements.{Contains-append_left, Contains-append_right}
use Rattle.std.proofs.lemmas.Option.{slice_get_within}
use Rattle.ts_base.specs.Bytes.{Bytes}
use Rattle.ts_core.specs.declared.flat.TokenDef.{TokenDef}
use Rattle.ts_core.specs.declared.re.Re.{Re}
use Rattle.ts_core.specs.declared.rule.Grammar.{Grammar}
use Rattle.ts_core.specs.declared.rule.Rule.{Rule}
use Rattle.ts_core.specs.declared.symbol.Kind.{Kind}
use Rattle.spec_lexing.specs.Words.{Word, regular_of}
use Rattle.ts_rules.specs.FirstSights.{Not, Once}
use Rattle.ts_rules.specs.Numbers.{NamesToken}
use Rattle.ts_rules.specs.Sights.{NamedRule, Sight, sights, below, seen_rules, rule_sights, tokens_in, token_at, if_token, is_token}
use Rattle.ts_rules.specs.Tokens.{Patterns, IsTokenDef, IsNamedBy, IsUnnamed, IsKind, IsKeyword}
use Rattle.ts_form.proofs.ListLemmas.{at_of, none_in, head_in, tail_in, member_cases, flat_in}
use Rattle.ts_form.proofs.InsideLemmas.{rule_seen, token_seen}
use Rattle.ts_form.proofs.PatternLemmas.{ReadAlike, same_re}
use Rattle.ts_form.proofs.RecordLemmas.{same_token}

-- ---- what stands once does not stand in two parts

once_split : {X : Type 0} (before after xs ys : List X) (x : X) → before ++ x ∷ after ≡ xs ++ ys → Not (Contains before x) → Not (Contains after x) → Contains xs x → Contains ys x → ⊥
once_split before after [] ys x e a b v w = none_in x v
once_split {X = X} [] after (c ∷ xs) ys x e a b v w =
    let h : x ∷ after ≡ c ∷ (xs ++ ys) = e in
    let rest : after ≡ xs ++ ys = cc in
    b (subst (λ (zs : List X). Contains zs x) (sym rest) (Contains-append_right xs ys x w))
once_split {X = X} (d ∷ before) after (c ∷ xs) ys x e a b v w =
    let h : d ∷ (before ++ x ∷ after) ≡ c ∷ (xs ++ ys) = e in
    let head : c ≡ d = cc in
    let rest : before ++ x ∷ after ≡ xs ++ ys = cc in
    ⊎_elim
    (λ is. a (subst (λ (z : X). Contains (d ∷ before) z) (sym (is ∙ head)) (head_in d before)))
    (λ later. once_split before after xs ys x rest (λ u. a (tail_in d x before u)) b later w)
    (member_cases c x xs v)

-- ---- a whole rule that is a token stands among the tokens

whole_token : (t : Rule) → is_token t ≡ true → Contains (tokens_in (sights t)) t
whole_token t token =
    flat_in (λ (v : Sight). token_at v.tree v.inside) (sights t) (record { tree = t; inside = false }) t (head_in (record { tree = t; inside = false }) (below t false))
    (subst (λ (b : Bool). Contains (if_token t b) t) (sym token) (head_in t []))

record Twice (all : List Rule) (t : Rule) : Type 0 where
  first : List Rule
  second : List Rule
  is : all ≡ first ++ second
  in_first : Contains first t
  in_second : Contains second t

split_tokens : (rule : NamedRule) (rules : List NamedRule) → tokens_in (seen_rules (rule ∷ rules)) ≡ tokens_in (sights rule.1) ++ tokens_in (seen_rules rules)
split_tokens rule rules = flat_map-append (λ (v : Sight). token_at v.tree v.inside) (sights rule.1) (seen_rules rules)

later_token : (rules : List NamedRule) (k : ℕ) (rule : NamedRule) → slice_get rules k ≡ Some rule → is_token rule.1 ≡ true → Contains (tokens_in (seen_rules rules)) rule.1
later_token [] k rule at token = absurd (let lt : k < 0 = slice_get_within {A = NamedRule} [] k rule at in omega arith)
later_token (r ∷ rules) zero rule at token =
    let e : Some r ≡ Some rule = at in
    let is : rule ≡ r = cc in
    subst (λ (ts : List Rule). Contains ts rule.1) (sym (split_tokens r rules))
    (Contains-append_left (tokens_in (sights r.1)) (tokens_in (seen_rules rules)) rule.1
    (subst (λ (z : NamedRule). Contains (tokens_in (sights z.1)) rule.1) is (whole_token rule.1 token)))
later_token (r ∷ rules) (suc k) rule at token =
    subst (λ (ts : List Rule). Contains ts rule.1) (sym (split_tokens r rules))
    (Contains-append_right (tokens_in (sights r.1)) (tokens_in (seen_rules rules)) rule.1 (later_token rules k rule at token))

twice : (rules : List NamedRule) (j k : ℕ) (a b : Bytes) (t : Rule) → j < k → slice_get rules j ≡ Some (a, t) → slice_get rules k ≡ Some (b, t) → is_token t ≡ true → Twice (tokens_in (seen_rules rules)) t
twice [] j k a b t lt at at_too token = absurd (let w : j < 0 = slice_get_within {A = NamedRule} [] j (a, t) at in omega arith)
twice (r ∷ rules) j zero a b t lt at at_too token = absurd (omega arith)
twice (r ∷ rules) zero (suc k) a b t lt at at_too token =
    let e : Some r ≡ Some (a, t) = at in
    let is : (a, t) ≡ r = cc in
    record {
      first = tokens_in (sights r.1);
      second = tokens_in (seen_rules rules);
      is = split_tokens r rules;
      in_first = subst (λ (z : NamedRule). Contains (tokens_in (sights z.1)) t) is (whole_token t token);
      in_second = later_token rules k (b, t) at_too token;
    }
twice (r ∷ rules) (suc j) (suc k) a b t lt at at_too token =
    let more = twice rules j k a b t (omega arith) at at_too token in
    record {
      first = tokens_in (sights r.1) ++ more.first;
      second = more.second;
      is = split_tokens r rules ∙ ap (λ (ts : List Rule). tokens_in (sights r.1) ++ ts) more.is ∙ sym (append_assoc (tokens_in (sights r.1)) more.first more.second);
      in_first = Contains-append_right (tokens_in (sights r.1)) more.first t more.in_first;
      in_second = more.in_second;
    }

not_twice : (all : List Rule) (t : Rule) → Once all t → Twice all t → ⊥
not_twice all t o w = once_split o.before o.after w.first w.second t (sym o.is ∙ w.is) o.not_before o.not_after w.in_first w.in_second

-- a token is named by one rule
pub one_token_name : (g : Grammar) (a b : Bytes) (t : Rule) → NamesToken g a t → NamesToken g b t → a ≡ b
one_token_name g a b t h k = by h.is.0 k.is.0 (at_of g.rules (a, t) h.is) (at_of g.rules (b, t) k.is)
  where
    by : (i j : ℕ) → slice_get g.rules i ≡ Some (a, t) → slice_get g.rules j ≡ Some (b, t) → a ≡ b
    by i j at at_too = ⊎_elim
        (λ lt. absurd (not_twice (tokens_in (rule_sights g)) t h.once (twice g.rules i j a b t lt at at_too h.token)))
        (λ ge. ⊎_elim
        (λ lt. absurd (not_twice (tokens_in (rule_sights g)) t h.once (twice g.rules j i b a t lt at_too at h.token)))
        (λ le.
        let e : i ≡ j = omega arith in
        let f : Some (a, t) ≡ Some (b, t) = sym at ∙ ap (slice_get g.rules) e ∙ at_too in
        ap (λ (o : Option NamedRule). name_in a o) f)
        (cases_lt j i))
        (cases_lt i j)
      where
        name_in : Bytes → Option NamedRule → Bytes
        name_in other None = other
        name_in other (Some r) = r.0

-- ---- kinds and keywords

pub one_kind : (g : Grammar) (name : Bytes) (a b : Kind) → IsKind g name a → IsKind g name b → a ≡ b
one_kind g name a b (inl h) (inl k) = h.1 ∙ sym k.1
one_kind g name a b (inl h) (inr k) = absurd (k.0 h.0)
one_kind g name a b (inr h) (inl k) = absurd (h.0 k.0)
one_kind g name a b (inr h) (inr k) = h.1 ∙ sym k.1

same_bool : (a b : Bool) → (a ≡ true → b ≡ true) → (b ≡ true → a ≡ true) → a ≡ b
same_bool true b h k = sym (h refl)
same_bool false true h k = k refl
same_bool false false h k = refl

module _ (g : Grammar) where
  keyword_too : (p q : Patterns) (t : Rule) → ReadAlike p q (rule_sights g) → IsKeyword p g t → IsKeyword q g t
  keyword_too p q t alike k = record {
    word = k.word;
    word_tree = k.word_tree;
    text = k.text;
    is_word = k.is_word;
    names = k.names;
    is_string = k.is_string;
    not_it = k.not_it;
    matched = subst (λ (r : Re). Word (regular_of r) (chars k.text))
        (same_re p q k.word_tree (λ s w. alike s (rule_seen g (k.word, k.word_tree) k.names.is s w))) k.matched;
  }

  -- a token has one definition
  pub one_definition : (p q : Patterns) (t : Rule) (d e : TokenDef) → ReadAlike p q (rule_sights g) → ReadAlike q p (rule_sights g) → Contains (tokens_in (rule_sights g)) t
      → IsTokenDef p g t d → IsTokenDef q g t e → d ≡ e
  one_definition p q t d e alike back w a b =
      let keyword : d.keyword ≡ e.keyword
      = same_bool d.keyword e.keyword (λ h. b.keyword.1 (keyword_too p q t alike (a.keyword.0 h))) (λ h. a.keyword.1 (keyword_too q p t back (b.keyword.0 h))) in
      let named : (d.name ≡ e.name) × (d.kind ≡ e.kind) = names a.named b.named in
      same_token d e named.0 named.1 (a.re ∙ same_re p q t (λ s v. alike s (token_seen g t w s v)) ∙ sym b.re) (a.prec ∙ sym b.prec) (a.literal ∙ sym b.literal) (a.immediate ∙ sym b.immediate) keyword
    where
      names : IsNamedBy g t d ⊎ IsUnnamed g t d → IsNamedBy g t e ⊎ IsUnnamed g t e → (d.name ≡ e.name) × (d.kind ≡ e.kind)
      names (inl h) (inl k) =
          let same : d.name ≡ e.name = one_token_name g d.name e.name t h.rule k.rule in
          (same, one_kind g e.name d.kind e.kind (subst (λ (name : Bytes). IsKind g name d.kind) same h.kind) k.kind)
      names (inl h) (inr k) = absurd (k.no_rule d.name h.rule)
      names (inr h) (inl k) = absurd (h.no_rule e.name k.rule)
      names (inr h) (inr k) = (h.name ∙ sym k.name, h.kind ∙ sym k.kind)
