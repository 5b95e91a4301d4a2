-- Two numberings of one grammar agree on all that its rules hold.
use Rattle.std.proofs.Common.{◌≡◌, ◌∙◌, sym, ap, subst, refl, ℕ, Bool, true, false, List, [], ◌∷◌, ◌++◌, slice_get, Some}
use Rattle.std.specs.List.{Contains}
use Rattle.std.proofs.lemmas.List.Elements.{Contains-append_left, Contains-append_right, All-contains}
use Rattle.ts_base.specs.Bytes.{Bytes}
use Rattle.ts_core.specs.declared.flat.Prec.{Prec}
use Rattle.ts_core.specs.declared.rule.Grammar.{Grammar}
use Rattle.ts_core.specs.declared.rule.PrecValue.{PrecValue}
use Rattle.ts_core.specs.declared.rule.Rule.{Rule}
use Rattle.ts_core.specs.declared.rule.Rule.TheOpen.{Rule-F}
use Rattle.ts_core.specs.declared.rule.Rule.TheVariants as rule
use Rattle.ts_core.specs.declared.rule.Rule.TheVariants.{rolls-Literal, rolls-Pattern, rolls-Token, rolls-ImmediateToken}
use Rattle.ts_core.specs.declared.rule.Rule.TheViews.{roll-Rule, out-Rule, roll-out-Rule}
use Rattle.ts_rules.specs.Causes.{IsUndefined, names_used, listed, merged}
use Rattle.ts_rules.specs.FirstSights.{Not, Clear, Once}
use Rattle.ts_rules.specs.Numbers.{Numbers, Lists, AreLists, AreNumbers, IsRule, IsInlined, NamesSome, HasSymbol, IsRepeated, has_steps, tree_of, unnumbered, prec_of, alts}
use Rattle.ts_rules.specs.Sights.{NamedRule, Sight, rule_sights, extra_sights, walk, tokens_in, token_at, if_token, is_token, is_token_layer, contents_in, content_at, content_layer, symbols_in, symbol_layer, fields_in, field_layer, aliases_in, alias_layer, alias, precs_in, prec_layer, ranked_names, ranked_rules}
use Rattle.ts_form.proofs.ListLemmas.{there, at_of, head_in, flat_in, picks_all, picked, stable}
use Rattle.ts_form.proofs.LikeLemmas.{AgreesLayer, AgreesAll, AltsLike, alts_like, same_steps}
use Rattle.ts_form.proofs.InsideLemmas.{rule_seen, content_seen}
use Rattle.ts_form.proofs.BecomeLemmas.{So}

pub once_in : {X : Type 0} (all : List X) (x : X) → Once all x → Contains all x
once_in {X = X} all x o = subst (λ (xs : List X). Contains xs x) (sym o.is) (Contains-append_right o.before (x ∷ o.after) x (head_in x o.after))

pub walk_has : (g : Grammar) (s : Sight) → Contains (rule_sights g) s → Contains (walk g) s
walk_has g s w = Contains-append_left (rule_sights g) (extra_sights g) s w

-- the names that a grammar uses, by their kinds
abbrev used_in_rules : Grammar → List Bytes
used_in_rules g = symbols_in (walk g) ++ listed g.word

pub symbol_used : (g : Grammar) (name : Bytes) → Contains (symbols_in (walk g)) name → Contains (names_used g) name
symbol_used g name w =
    Contains-append_left (used_in_rules g ++ merged g.conflicts ++ ranked_rules g) g.supertypes name
    (Contains-append_left (used_in_rules g ++ merged g.conflicts) (ranked_rules g) name
    (Contains-append_left (used_in_rules g) (merged g.conflicts) name
    (Contains-append_left (symbols_in (walk g)) (listed g.word) name w)))

pub word_used : (g : Grammar) (name : Bytes) → Contains (listed g.word) name → Contains (names_used g) name
word_used g name w =
    Contains-append_left (used_in_rules g ++ merged g.conflicts ++ ranked_rules g) g.supertypes name
    (Contains-append_left (used_in_rules g ++ merged g.conflicts) (ranked_rules g) name
    (Contains-append_left (used_in_rules g) (merged g.conflicts) name
    (Contains-append_right (symbols_in (walk g)) (listed g.word) name w)))

pub conflict_used : (g : Grammar) (name : Bytes) → Contains (merged g.conflicts) name → Contains (names_used g) name
conflict_used g name w =
    Contains-append_left (used_in_rules g ++ merged g.conflicts ++ ranked_rules g) g.supertypes name
    (Contains-append_left (used_in_rules g ++ merged g.conflicts) (ranked_rules g) name
    (Contains-append_right (used_in_rules g) (merged g.conflicts) name w))

pub ranked_used : (g : Grammar) (name : Bytes) → Contains (ranked_rules g) name → Contains (names_used g) name
ranked_used g name w =
    Contains-append_left (used_in_rules g ++ merged g.conflicts ++ ranked_rules g) g.supertypes name
    (Contains-append_right (used_in_rules g ++ merged g.conflicts) (ranked_rules g) name w)

pub supertype_used : (g : Grammar) (name : Bytes) → Contains g.supertypes name → Contains (names_used g) name
supertype_used g name w = Contains-append_right (used_in_rules g ++ merged g.conflicts ++ ranked_rules g) g.supertypes name w

module _ (g : Grammar) (x : Lists) (n m : Numbers) (lists : AreLists g x) (first : AreNumbers g n x) (second : AreNumbers g m x)
    (defined : Clear (IsUndefined g) (names_used g)) where
  pub token_same : (t : Rule) → Contains (tokens_in (rule_sights g)) t → n.token t ≡ m.token t
  token_same t w =
      let v : Contains x.tokens t = lists.tokens.every t w in
      let at : slice_get x.tokens v.0 ≡ Some t = at_of x.tokens t v in
      first.tokens v.0 t at ∙ sym (second.tokens v.0 t at)

  pub repetition_same : (c : Rule) → Contains x.contents c → n.repetition c ≡ m.repetition c
  repetition_same c v =
      let at : slice_get x.contents v.0 ≡ Some c = at_of x.contents c v in
      first.contents v.0 c at ∙ sym (second.contents v.0 c at)

  content_there : (c : Rule) → Contains (contents_in (rule_sights g)) c → IsRepeated c → Contains x.contents c
  content_there c w h = let seen = lists.contents in seen.2.every c (picks_all IsRepeated (contents_in (rule_sights g)) seen.0 c seen.1 w h)

  field_same : (name : Bytes) → Contains (fields_in (walk g)) name → n.field name ≡ m.field name
  field_same name w =
      let v : Contains x.fields name = lists.fields.every name w in
      let at : slice_get x.fields v.0 ≡ Some name = at_of x.fields name v in
      first.fields v.0 name at ∙ sym (second.fields v.0 name at)

  pub prec_same : (name : Bytes) → Contains (precs_in (walk g) ++ ranked_names g) name → n.prec name ≡ m.prec name
  prec_same name w =
      let v : Contains x.precs name = lists.precs.every name w in
      let at : slice_get x.precs v.0 ≡ Some name = at_of x.precs name v in
      first.precs v.0 name at ∙ sym (second.precs v.0 name at)

  -- ---- rules

  named_same : (name : Bytes) → NamesSome g name → n.rule name ≡ m.rule name
  named_same name h = first.named name h.0 h.1 ∙ token_same h.0 (once_in (tokens_in (rule_sights g)) h.0 h.1.once) ∙ sym (second.named name h.0 h.1)

  inlined_same : (name : Bytes) (t : Rule) → Contains g.rules (name, t) → IsInlined g name → n.rule name ≡ m.rule name
  inlined_same name t w h =
      let v : Contains x.inlined (name, t) = picks_all (λ (r : NamedRule). IsInlined g r.0) g.rules x.inlined (name, t) lists.inlined w h in
      let at : slice_get x.inlined v.0 ≡ Some (name, t) = at_of x.inlined (name, t) v in
      first.inlined v.0 (name, t) at ∙ sym (second.inlined v.0 (name, t) at)

  own_same : (name : Bytes) (t : Rule) → Contains g.rules (name, t) → HasSymbol g (name, t) → n.rule name ≡ m.rule name
  own_same name t w h =
      let v : Contains x.rules (name, t) = picks_all (HasSymbol g) g.rules x.rules (name, t) lists.rules w h in
      let at : slice_get x.rules v.0 ≡ Some (name, t) = at_of x.rules (name, t) v in
      first.rules v.0 (name, t) at ∙ sym (second.rules v.0 (name, t) at)

  -- a name that is not without a rule
  pub rule_same : (name : Bytes) → Not (IsUndefined g name) → n.rule name ≡ m.rule name
  rule_same name some = stable (n.rule name) (m.rule name) (λ apart. some (λ is.
      apart (own_same name is.0 is.1 (record { unnamed = λ h. apart (named_same name h); kept = λ h. apart (inlined_same name is.0 is.1 h) }))))

  pub used_same : (name : Bytes) → Contains (names_used g) name → n.rule name ≡ m.rule name
  used_same name w = rule_same name (All-contains (λ (u : Bytes). Not (IsUndefined g u)) (names_used g) name defined w)

  pub of_rule_same : (name : Bytes) → IsRule g name → n.rule name ≡ m.rule name
  of_rule_same name is = rule_same name (λ none. none is)

  -- ---- what is seen

  module _ (s : Sight) (here : Contains (rule_sights g) s) (outside : s.inside ≡ false) where
    in_token : (layer : Rule-F Rule) (t : Rule) → out-Rule s.tree ≡ layer → is_token_layer layer ≡ true → roll-Rule layer ≡ t → n.token t ≡ m.token t
    in_token layer t e f h =
        let is : s.tree ≡ t = sym (roll-out-Rule s.tree) ∙ ap roll-Rule e ∙ h in
        let token : is_token s.tree ≡ true = ap (λ (z : Rule-F Rule). is_token_layer z) e ∙ f in
        let at : Contains (token_at s.tree s.inside) s.tree
        = subst (λ (b : Bool). Contains (token_at s.tree b) s.tree) (sym outside) (subst (λ (b : Bool). Contains (if_token s.tree b) s.tree) (sym token) (head_in s.tree [])) in
        token_same t (subst (λ (r : Rule). Contains (tokens_in (rule_sights g)) r) is (flat_in (λ (v : Sight). token_at v.tree v.inside) (rule_sights g) s s.tree here at))

    in_content : (layer : Rule-F Rule) (c : Rule) → out-Rule s.tree ≡ layer → Contains (content_layer layer) c → has_steps (tree_of n c) ≡ true → n.repetition c ≡ m.repetition c
    in_content layer c e w steps =
        let at : Contains (content_at s.tree s.inside) c
        = subst (λ (b : Bool). Contains (content_at s.tree b) c) (sym outside) (subst (λ (z : Rule-F Rule). Contains (content_layer z) c) (sym e) w) in
        repetition_same c (content_there c (flat_in (λ (v : Sight). content_at v.tree v.inside) (rule_sights g) s c here at) (same_steps unnumbered n c ∙ steps))

    in_prec : (layer : Rule-F Rule) (value : PrecValue) → out-Rule s.tree ≡ layer → ((name : Bytes) → value ≡ PrecValue.Name name → Contains (prec_layer layer) name) → prec_of n value ≡ prec_of m value
    in_prec layer (PrecValue.Number value) e w = refl
    in_prec layer (PrecValue.Name name) e w =
        let at : Contains (prec_layer (out-Rule s.tree)) name = subst (λ (z : Rule-F Rule). Contains (prec_layer z) name) (sym e) (w name refl) in
        ap Prec.Name (prec_same name (Contains-append_left (precs_in (walk g)) (ranked_names g) name (flat_in (λ (v : Sight). prec_layer (out-Rule v.tree)) (walk g) s name (walk_has g s here) at)))

    name_there : (value : PrecValue) (name : Bytes) → value ≡ PrecValue.Name name → Contains (prec_layer (Rule-F.Prec value s.tree)) name
    name_there value name e = subst (λ (v : PrecValue). Contains (prec_layer (Rule-F.Prec v s.tree)) name) (sym e) (head_in name [])

    agrees : (layer : Rule-F Rule) → out-Rule s.tree ≡ layer → AgreesLayer n m layer
    agrees Rule-F.Blank e = tt
    agrees (Rule-F.Literal text) e = in_token (Rule-F.Literal text) (rule.Literal text) e refl (rolls-Literal text)
    agrees (Rule-F.Pattern value ignore_case) e = in_token (Rule-F.Pattern value ignore_case) (rule.Pattern value ignore_case) e refl (rolls-Pattern value ignore_case)
    agrees (Rule-F.Symbol name) e =
        used_same name (symbol_used g name (flat_in (λ (v : Sight). symbol_layer (out-Rule v.tree)) (walk g) s name (walk_has g s here)
        (subst (λ (z : Rule-F Rule). Contains (symbol_layer z) name) (sym e) (head_in name []))))
    agrees (Rule-F.Seq members) e = tt
    agrees (Rule-F.Choice members) e = tt
    agrees (Rule-F.Repeat c) e = in_content (Rule-F.Repeat c) c e (head_in c [])
    agrees (Rule-F.Repeat1 c) e = in_content (Rule-F.Repeat1 c) c e (head_in c [])
    agrees (Rule-F.Token c) e = in_token (Rule-F.Token c) (rule.Token c) e refl (rolls-Token c)
    agrees (Rule-F.ImmediateToken c) e = in_token (Rule-F.ImmediateToken c) (rule.ImmediateToken c) e refl (rolls-ImmediateToken c)
    agrees (Rule-F.Field name c) e =
        field_same name (flat_in (λ (v : Sight). field_layer (out-Rule v.tree)) (walk g) s name (walk_has g s here)
        (subst (λ (z : Rule-F Rule). Contains (field_layer z) name) (sym e) (head_in name [])))
    agrees (Rule-F.Alias c named value) e =
        let w : Contains (aliases_in (walk g)) (alias value named)
        = flat_in (λ (v : Sight). alias_layer (out-Rule v.tree)) (walk g) s (alias value named) (walk_has g s here)
        (subst (λ (z : Rule-F Rule). Contains (alias_layer z) (alias value named)) (sym e) (head_in (alias value named) [])) in
        first.aliases (alias value named) w ∙ sym (second.aliases (alias value named) w)
    agrees (Rule-F.Prec value c) e = in_prec (Rule-F.Prec value c) value e (name_there value)
    agrees (Rule-F.PrecLeft value c) e = in_prec (Rule-F.PrecLeft value c) value e (name_there value)
    agrees (Rule-F.PrecRight value c) e = in_prec (Rule-F.PrecRight value c) value e (name_there value)
    agrees (Rule-F.PrecDynamic value c) e = tt

  rules_agree : AgreesAll n m (rule_sights g)
  rules_agree s here outside = agrees s here outside (out-Rule s.tree) refl

  -- ---- rules and contents

  pub rule_alike : (rule : NamedRule) → Contains g.rules rule → AltsLike So n m (alts n rule.1) (alts m rule.1)
  rule_alike rule w = alts_like So n m rule.1 (λ so s v. rules_agree s (rule_seen g rule w s v))

  pub inlined_alike : (k : ℕ) (rule : NamedRule) → slice_get x.inlined k ≡ Some rule → AltsLike So n m (alts n rule.1) (alts m rule.1)
  inlined_alike k rule at = let p = picked (λ (r : NamedRule). IsInlined g r.0) g.rules x.inlined rule lists.inlined (there x.inlined k rule at) in rule_alike rule p.0

  pub content_alike : (c : Rule) → Contains x.contents c → AltsLike So n m (alts n c) (alts m c)
  content_alike c w =
      let seen = lists.contents in
      let p = picked IsRepeated (contents_in (rule_sights g)) seen.0 c seen.1 (seen.2.only c w) in
      alts_like So n m c (λ so s v. rules_agree s (content_seen g c p.0 s v))
