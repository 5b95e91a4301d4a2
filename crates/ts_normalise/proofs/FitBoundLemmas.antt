-- What the rules of a grammar hold is in range: its tokens, rules, repetitions and names have numbers
-- below the bounds of its normal form.
use Rattle.std.proofs.Common.{◌≡◌, ◌∙◌, sym, ap, subst, refl, ℕ, suc, ◌+◌, ◌<◌, Bool, true, false, ⊎_elim, List, [], ◌++◌, length, slice_get, Some, arith}
use Rattle.std.specs.List.{Contains}
use Rattle.std.proofs.lemmas.Bool.{cases_lt}
use Rattle.std.proofs.lemmas.List.Elements.{Contains-append_left, All-contains}
use Rattle.ts_base.specs.Bytes.{Bytes}
use Rattle.ts_core.specs.declared.flat.Alias.{Alias}
use Rattle.ts_core.specs.declared.flat.FlatGrammar.{FlatGrammar}
use Rattle.ts_core.specs.declared.rule.Grammar.{Grammar}
use Rattle.ts_core.specs.declared.rule.PrecValue.{PrecValue}
use Rattle.ts_core.specs.declared.rule.Rule.{Rule}
use Rattle.ts_core.specs.declared.rule.Rule.TheOpen.{Rule-F}
use Rattle.ts_core.specs.declared.rule.Rule.TheVariants as rule
use Rattle.ts_core.specs.declared.rule.Rule.TheVariants.{rolls-Literal, rolls-Pattern, rolls-Token, rolls-ImmediateToken}
use Rattle.ts_core.specs.declared.rule.Rule.TheViews.{roll-Rule, out-Rule, roll-out-Rule}
use Rattle.spec_tables.specs.Fit.{IsPrec, IsShort}
use Rattle.ts_pattern.specs.Reads.{Reads}
use Rattle.ts_rules.specs.Causes.{IsUndefined, names_used}
use Rattle.ts_rules.specs.FileGrammar.{IsFileGrammar, IsSmallLayer, IsSmallSight}
use Rattle.ts_rules.specs.FirstSights.{Not, Clear}
use Rattle.ts_rules.specs.Normal.{IsNormal}
use Rattle.ts_rules.specs.Numbers.{Lists, IsInlined, NamesSome, HasSymbol, IsRepeated, has_steps, tree_of, unnumbered, prec_of, first_rule, first_inlined}
use Rattle.ts_rules.specs.Sights.{NamedRule, Sight, sights, rule_sights, walk, tokens_in, token_at, if_token, is_token, is_token_layer, contents_in, content_at, content_layer, symbol_layer, fields_in, field_layer, aliases_in, alias_layer, alias, precs_in, prec_layer, ranked_names}
use Rattle.ts_normalise.proofs.UsedLemmas.{once_in, walk_has, symbol_used}
use Rattle.ts_normalise.proofs.InsideLemmas.{rule_seen, content_seen}
use Rattle.ts_normalise.proofs.BlankLemmas.{same_steps}
use Rattle.ts_normalise.proofs.ListLemmas.{at_of, head_in, flat_in, picks_all, picked}
use Rattle.ts_normalise.proofs.FitTreeLemmas.{IsBounded, AreBounded}

-- what can't be out of range is in range
pub range_stable : (least top k : ℕ) → Not (Not ((least < k) × (k < top))) → (least < k) × (k < top)
range_stable least top k h = ⊎_elim
    (λ above. ⊎_elim
    (λ below. (above, below))
    (λ ge. absurd (h (λ r. let lt = r.1 in omega (arith, lt, ge))))
    (cases_lt k top))
    (λ le. absurd (h (λ r. let lt = r.0 in omega (arith, lt, le))))
    (cases_lt least k)

module _ (g : Grammar) (f : FlatGrammar) (normal : IsNormal Reads g f) where
  -- one more than the last symbol, with those of inlined rules
  abbrev pub bound : ℕ
  bound = first_inlined normal.lists + length normal.lists.inlined

  -- a token's number is that of a token
  pub token_number : (t : Rule) → Contains (tokens_in (rule_sights g)) t → (0 < normal.numbers.token t) × (normal.numbers.token t < first_rule normal.lists)
  token_number t w =
      let x : Lists = normal.lists in
      let v : Contains x.tokens t = normal.are_lists.tokens.every t w in
      let e : normal.numbers.token t ≡ suc v.0 = normal.are_numbers.tokens v.0 t (at_of x.tokens t v) in
      let lt = v.1 in
      (omega (arith, e), omega (arith, e, lt))

  -- and so is that of a rule that names a token
  pub named_number : (name : Bytes) → NamesSome g name → (0 < normal.numbers.rule name) × (normal.numbers.rule name < first_rule normal.lists)
  named_number name h =
      let e = normal.are_numbers.named name h.0 h.1 in
      let r = token_number h.0 (once_in (tokens_in (rule_sights g)) h.0 h.1.once) in
      let above = r.0 in
      let below = r.1 in
      (omega (arith, e, above), omega (arith, e, below))

  -- a rule with a symbol has its place
  pub own_place : (name : Bytes) (t : Rule) → Contains g.rules (name, t) → HasSymbol g (name, t) → (k : ℕ) × (slice_get normal.lists.rules k ≡ Some (name, t)) × (normal.numbers.rule name ≡ first_rule normal.lists + k) × (k < length normal.lists.rules)
  own_place name t w h =
      let x : Lists = normal.lists in
      let v : Contains x.rules (name, t) = picks_all (HasSymbol g) g.rules x.rules (name, t) normal.are_lists.rules w h in
      let at : slice_get x.rules v.0 ≡ Some (name, t) = at_of x.rules (name, t) v in
      (v.0, at, normal.are_numbers.rules v.0 (name, t) at, v.1)

  inlined_number : (name : Bytes) (t : Rule) → Contains g.rules (name, t) → IsInlined g name → (0 < normal.numbers.rule name) × (normal.numbers.rule name < bound)
  inlined_number name t w h =
      let x : Lists = normal.lists in
      let v : Contains x.inlined (name, t) = picks_all (λ (r : NamedRule). IsInlined g r.0) g.rules x.inlined (name, t) normal.are_lists.inlined w h in
      let e = normal.are_numbers.inlined v.0 (name, t) (at_of x.inlined (name, t) v) in
      let lt = v.1 in
      (omega (arith, e), omega (arith, e, lt))

  -- a name that is not without a rule
  pub rule_number : (name : Bytes) → Not (IsUndefined g name) → (0 < normal.numbers.rule name) × (normal.numbers.rule name < bound)
  rule_number name some = range_stable 0 bound (normal.numbers.rule name) (λ out. some (λ is. out (
      let own = own_place name is.0 is.1 (record {
        unnamed = λ h. out (let r = named_number name h in let above = r.0 in let below = r.1 in (above, omega (arith, below)));
        kept = λ h. out (inlined_number name is.0 is.1 h);
      }) in
      let e = own.2 in
      let lt = own.3 in
      (omega (arith, e), omega (arith, e, lt)))))

  -- a name that is not without a rule, and is not inlined
  pub kept_number : (name : Bytes) → Not (IsUndefined g name) → Not (IsInlined g name) → (0 < normal.numbers.rule name) × (normal.numbers.rule name < first_inlined normal.lists)
  kept_number name some kept = range_stable 0 (first_inlined normal.lists) (normal.numbers.rule name) (λ out. some (λ is. out (
      let own = own_place name is.0 is.1 (record {
        unnamed = λ h. out (let r = named_number name h in let above = r.0 in let below = r.1 in (above, omega (arith, below)));
        kept = kept;
      }) in
      let e = own.2 in
      let lt = own.3 in
      (omega (arith, e), omega (arith, e, lt)))))

  -- a repetition has its place
  pub repetition_number : (c : Rule) → Contains normal.lists.contents c → (0 < normal.numbers.repetition c) × (normal.numbers.repetition c < first_inlined normal.lists)
  repetition_number c v =
      let e = normal.are_numbers.contents v.0 c (at_of normal.lists.contents c v) in
      let lt = v.1 in
      (omega (arith, e), omega (arith, e, lt))

  content_there : (c : Rule) → Contains (contents_in (rule_sights g)) c → IsRepeated c → Contains normal.lists.contents c
  content_there c w h = let seen = normal.are_lists.contents in seen.2.every c (picks_all IsRepeated (contents_in (rule_sights g)) seen.0 c seen.1 w h)

  field_number : (name : Bytes) → Contains (fields_in (walk g)) name → normal.numbers.field name < length f.fields
  field_number name w =
      let x : Lists = normal.lists in
      let v : Contains x.fields name = normal.are_lists.fields.every name w in
      let e = normal.are_numbers.fields v.0 name (at_of x.fields name v) in
      let same : length f.fields ≡ length x.fields = ap (λ (ns : List Bytes). length ns) normal.fields in
      let lt = v.1 in
      omega (arith, e, same, lt)

  pub prec_number : (name : Bytes) → Contains (precs_in (walk g) ++ ranked_names g) name → normal.numbers.prec name < length f.precs
  prec_number name w =
      let x : Lists = normal.lists in
      let v : Contains x.precs name = normal.are_lists.precs.every name w in
      let e = normal.are_numbers.precs v.0 name (at_of x.precs name v) in
      let same : length f.precs ≡ length x.precs = ap (λ (ns : List Bytes). length ns) normal.precs in
      let lt = v.1 in
      omega (arith, e, same, lt)

  -- ---- what is seen

  module _ (file : IsFileGrammar g) (defined : Clear (IsUndefined g) (names_used g)) where
    small_layer : (s : Sight) (layer : Rule-F Rule) → Contains (walk g) s → out-Rule s.tree ≡ layer → IsSmallLayer layer
    small_layer s layer w e = subst (λ (z : Rule-F Rule). IsSmallLayer z) e (All-contains IsSmallSight (walk g) s file.small w)

    module _ (s : Sight) (here : Contains (rule_sights g) s) (outside : s.inside ≡ false) where
      in_token : (layer : Rule-F Rule) (t : Rule) → out-Rule s.tree ≡ layer → is_token_layer layer ≡ true → roll-Rule layer ≡ t → (0 < normal.numbers.token t) × (normal.numbers.token t < bound)
      in_token layer t e i h =
          let is : s.tree ≡ t = sym (roll-out-Rule s.tree) ∙ ap roll-Rule e ∙ h in
          let token : is_token s.tree ≡ true = ap (λ (z : Rule-F Rule). is_token_layer z) e ∙ i in
          let at : Contains (token_at s.tree s.inside) s.tree
          = subst (λ (b : Bool). Contains (token_at s.tree b) s.tree) (sym outside) (subst (λ (b : Bool). Contains (if_token s.tree b) s.tree) (sym token) (head_in s.tree [])) in
          let r = token_number t (subst (λ (z : Rule). Contains (tokens_in (rule_sights g)) z) is (flat_in (λ (v : Sight). token_at v.tree v.inside) (rule_sights g) s s.tree here at)) in
          let above = r.0 in
          let below = r.1 in
          (above, omega (arith, below))

      in_content : (layer : Rule-F Rule) (c : Rule) → out-Rule s.tree ≡ layer → Contains (content_layer layer) c → has_steps (tree_of normal.numbers c) ≡ true
          → (0 < normal.numbers.repetition c) × (normal.numbers.repetition c < bound)
      in_content layer c e w steps =
          let at : Contains (content_at s.tree s.inside) c
          = subst (λ (b : Bool). Contains (content_at s.tree b) c) (sym outside) (subst (λ (z : Rule-F Rule). Contains (content_layer z) c) (sym e) w) in
          let r = repetition_number c (content_there c (flat_in (λ (v : Sight). content_at v.tree v.inside) (rule_sights g) s c here at) (same_steps unnumbered normal.numbers c ∙ steps)) in
          let above = r.0 in
          let below = r.1 in
          (above, omega (arith, below))

      in_prec : (layer : Rule-F Rule) (value : PrecValue) → out-Rule s.tree ≡ layer → ((name : Bytes) → value ≡ PrecValue.Name name → Contains (prec_layer layer) name) → IsPrec f (prec_of normal.numbers value)
      in_prec layer (PrecValue.Number value) e w = tt
      in_prec layer (PrecValue.Name name) e w =
          let at : Contains (prec_layer (out-Rule s.tree)) name = subst (λ (z : Rule-F Rule). Contains (prec_layer z) name) (sym e) (w name refl) in
          prec_number name (Contains-append_left (precs_in (walk g)) (ranked_names g) name (flat_in (λ (v : Sight). prec_layer (out-Rule v.tree)) (walk g) s name (walk_has g s here) at))

      name_there : (value : PrecValue) (name : Bytes) → value ≡ PrecValue.Name name → Contains (prec_layer (Rule-F.Prec value s.tree)) name
      name_there value name e = subst (λ (v : PrecValue). Contains (prec_layer (Rule-F.Prec v s.tree)) name) (sym e) (head_in name [])

      bounded_layer : (layer : Rule-F Rule) → out-Rule s.tree ≡ layer → IsBounded normal.numbers f bound layer
      bounded_layer Rule-F.Blank e = tt
      bounded_layer (Rule-F.Literal text) e = in_token (Rule-F.Literal text) (rule.Literal text) e refl (rolls-Literal text)
      bounded_layer (Rule-F.Pattern value ignore_case) e = in_token (Rule-F.Pattern value ignore_case) (rule.Pattern value ignore_case) e refl (rolls-Pattern value ignore_case)
      bounded_layer (Rule-F.Symbol name) e =
          rule_number name (All-contains (λ (u : Bytes). Not (IsUndefined g u)) (names_used g) name defined
          (symbol_used g name (flat_in (λ (v : Sight). symbol_layer (out-Rule v.tree)) (walk g) s name (walk_has g s here)
          (subst (λ (z : Rule-F Rule). Contains (symbol_layer z) name) (sym e) (head_in name [])))))
      bounded_layer (Rule-F.Seq members) e = tt
      bounded_layer (Rule-F.Choice members) e = tt
      bounded_layer (Rule-F.Repeat c) e = in_content (Rule-F.Repeat c) c e (head_in c [])
      bounded_layer (Rule-F.Repeat1 c) e = in_content (Rule-F.Repeat1 c) c e (head_in c [])
      bounded_layer (Rule-F.Token c) e = in_token (Rule-F.Token c) (rule.Token c) e refl (rolls-Token c)
      bounded_layer (Rule-F.ImmediateToken c) e = in_token (Rule-F.ImmediateToken c) (rule.ImmediateToken c) e refl (rolls-ImmediateToken c)
      bounded_layer (Rule-F.Field name c) e =
          field_number name (flat_in (λ (v : Sight). field_layer (out-Rule v.tree)) (walk g) s name (walk_has g s here)
          (subst (λ (z : Rule-F Rule). Contains (field_layer z) name) (sym e) (head_in name [])))
      bounded_layer (Rule-F.Alias c named value) e =
          let w : Contains (aliases_in (walk g)) (alias value named)
          = flat_in (λ (v : Sight). alias_layer (out-Rule v.tree)) (walk g) s (alias value named) (walk_has g s here)
          (subst (λ (z : Rule-F Rule). Contains (alias_layer z) (alias value named)) (sym e) (head_in (alias value named) [])) in
          subst (λ (a : Alias). IsShort a.name) (sym (normal.are_numbers.aliases (alias value named) w)) (small_layer s (Rule-F.Alias c named value) (walk_has g s here) e)
      bounded_layer (Rule-F.Prec value c) e = in_prec (Rule-F.Prec value c) value e (name_there value)
      bounded_layer (Rule-F.PrecLeft value c) e = in_prec (Rule-F.PrecLeft value c) value e (name_there value)
      bounded_layer (Rule-F.PrecRight value c) e = in_prec (Rule-F.PrecRight value c) value e (name_there value)
      bounded_layer (Rule-F.PrecDynamic value c) e = tt

    all_bounded : AreBounded normal.numbers f bound (rule_sights g)
    all_bounded s here outside = bounded_layer s here outside (out-Rule s.tree) refl

    pub rule_bounded : (r : NamedRule) → Contains g.rules r → AreBounded normal.numbers f bound (sights r.1)
    rule_bounded r w s v = all_bounded s (rule_seen g r w s v)

    pub content_bounded : (c : Rule) → Contains normal.lists.contents c → AreBounded normal.numbers f bound (sights c)
    content_bounded c w s v =
        let seen = normal.are_lists.contents in
        let p = picked IsRepeated (contents_in (rule_sights g)) seen.0 c seen.1 (seen.2.only c w) in
        all_bounded s (content_seen g c p.0 s v)
