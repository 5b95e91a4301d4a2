-- What a normal form tells of why it can't be used is what its grammar is refused for.
use Rattle.std.proofs.Common.{◌≡◌, ◌∙◌, ap, subst, refl, ℕ, suc, ◌+◌, ◌-◌, ◌<◌, inl, inr, length, slice_get, Some, None, arith}
use Rattle.std.proofs.lemmas.Option.{slice_get_within}
use Rattle.ts_core.specs.declared.flat.FlatGrammar.{FlatGrammar}
use Rattle.ts_core.specs.declared.flat.FlatRule.{FlatRule}
use Rattle.ts_core.specs.declared.rule.Grammar.{Grammar}
use Rattle.ts_core.specs.declared.symbol.Symbol.{Symbol}
use Rattle.spec_tables.specs.Fit as fit
use Rattle.ts_fit.specs.Misfits.{FindsFirst, IsEmptyToken, IsFirstPlace}
use Rattle.ts_pattern.specs.Reads.{Reads}
use Rattle.ts_rules.specs.Normal.{IsNormal}
use Rattle.ts_normalise.specs.declared.fault.NFault.{NFault}
use Rattle.ts_normalise.specs.declared.fault.NFault.TheVariants as fault
use Rattle.ts_normalise.specs.Refusals.{Cause, Nothing, Before, HasCause, FindsEmptyToken, FindsEmptyRule, FindsCyclic, FindsInForm}
use Rattle.ts_normalise.specs.Forms.{TellsEmptyToken, TellsEmptyRule, TellsCycle, TellsInForm}
use Rattle.ts_normalise.proofs.CheckLemmas.{nothing_both, first_cause, later_cause}

-- ---- what is found in a flat grammar

module _ (f : FlatGrammar) where
  pub empty_token_none : FindsFirst (IsEmptyToken f) None → Nothing (TellsEmptyToken f)
  empty_token_none none found t = none t.0 t.2.holds

  pub empty_rule_none : FindsFirst (fit.IsEmptyRule f) None → Nothing (TellsEmptyRule f)
  empty_rule_none none found t = none t.0 t.2.holds

  pub cycle_none : FindsFirst (fit.IsCyclic f) None → Nothing (TellsCycle f)
  cycle_none none found t = none t.0 t.3.holds

  pub empty_token_place : (place : ℕ) → IsFirstPlace (IsEmptyToken f) place → place < length f.tokens
  empty_token_place place first = let h = first.holds in slice_get_within f.tokens place h.0 h.1

  pub empty_rule_place : (place : ℕ) → IsFirstPlace (fit.IsEmptyRule f) place → place < length f.rules
  empty_rule_place place first = let h = first.holds in slice_get_within f.rules place h.0 h.1

  rule_within : (place : ℕ) (r : FlatRule) → fit.HasRule f (fit.rule_symbol f place) r → place < length f.rules
  rule_within place r has =
      let same : suc (length f.tokens + place) ≡ suc (length f.tokens + has.0) = ap (λ (s : Symbol). s.0) has.2 in
      let lt = slice_get_within f.rules has.0 r has.1 in
      omega (arith, same, lt)

  derives_within : (place : ℕ) (to : Symbol) → fit.Derives f (fit.rule_symbol f place) to → place < length f.rules
  derives_within place to d = by (fit.rule_symbol f place) to d refl
    where
      by : (from to : Symbol) → fit.Derives f from to → from ≡ fit.rule_symbol f place → place < length f.rules
      by _ _ (fit.at_once a b alone) is = rule_within place alone.rule (subst (λ (s : Symbol). fit.HasRule f s alone.rule) is alone.has_rule)
      by _ _ (fit.through a b c alone rest) is = rule_within place alone.rule (subst (λ (s : Symbol). fit.HasRule f s alone.rule) is alone.has_rule)

  pub cycle_place : (place : ℕ) → IsFirstPlace (fit.IsCyclic f) place → place < length f.rules
  cycle_place place first = derives_within place (fit.rule_symbol f place) first.holds

  -- ---- the owner of a rule

  pub owner_place : (s : Symbol) (o : FlatRule) (n l : ℕ) → fit.HasRule f s o → n ≡ s.0 → l ≡ length f.tokens → n - l - 1 < length f.rules
  owner_place s o n l has number tokens =
      let same : s.0 ≡ suc (length f.tokens + has.0) = ap (λ (z : Symbol). z.0) has.2 in
      let lt = slice_get_within f.rules has.0 o has.1 in
      omega (arith, same, lt, number, tokens)

  pub owner_there : (s : Symbol) (o r : FlatRule) (n l : ℕ) → fit.HasRule f s o → n ≡ s.0 → l ≡ length f.tokens → slice_get f.rules (n - l - 1) ≡ Some r → fit.HasRule f s r
  owner_there s o r n l has number tokens at =
      let same : s.0 ≡ suc (length f.tokens + has.0) = ap (λ (z : Symbol). z.0) has.2 in
      let here : has.0 ≡ n - l - 1 = omega (arith, same, number, tokens) in
      (has.0, ap (slice_get f.rules) here ∙ at, has.2)

  -- ---- all of them

  abbrev Rest : Cause
  Rest = Before (TellsEmptyRule f) (TellsCycle f)

  pub form_tells_none : Nothing (TellsEmptyToken f) → Nothing (TellsEmptyRule f) → Nothing (TellsCycle f) → Nothing (TellsInForm f)
  form_tells_none a b c = nothing_both (TellsEmptyToken f) Rest a (nothing_both (TellsEmptyRule f) (TellsCycle f) b c)

  pub by_empty_token : (e : NFault) → HasCause (TellsEmptyToken f) e → HasCause (TellsInForm f) e
  by_empty_token e h = first_cause (TellsEmptyToken f) Rest e h

  pub by_empty_rule : (e : NFault) → Nothing (TellsEmptyToken f) → HasCause (TellsEmptyRule f) e → HasCause (TellsInForm f) e
  by_empty_rule e a h = later_cause (TellsEmptyToken f) Rest e a (first_cause (TellsEmptyRule f) (TellsCycle f) e h)

  pub by_cycle : (e : NFault) → Nothing (TellsEmptyToken f) → Nothing (TellsEmptyRule f) → HasCause (TellsCycle f) e → HasCause (TellsInForm f) e
  by_cycle e a b h = later_cause (TellsEmptyToken f) Rest e a (later_cause (TellsEmptyRule f) (TellsCycle f) e b h)

-- ---- what a normal form tells

module _ (g : Grammar) (f : FlatGrammar) (normal : IsNormal Reads g f) where
  token_found : (e : NFault) → TellsEmptyToken f e → FindsEmptyToken g e
  token_found e t = (t.1.name, record { form = f; normal = normal; place = t.0; first = t.2; token = t.1; there = t.3; name_is = refl }, t.4)

  rule_found : (e : NFault) → TellsEmptyRule f e → FindsEmptyRule g e
  rule_found e t = (t.1.name, record { form = f; normal = normal; place = t.0; first = t.2; rule = t.1; there = t.3; name_is = refl }, t.4)

  cycle_found : (e : NFault) → TellsCycle f e → FindsCyclic g e
  cycle_found e t = (t.2.name, record { form = f; normal = normal; place = t.0; first = t.3; rule = t.1; there = t.4; owner = t.2; owner_there = t.5; name_is = refl }, t.6)

  module _ (one : (h : FlatGrammar) → IsNormal Reads g h → h ≡ f) where
    token_told : (e : NFault) → FindsEmptyToken g e → TellsEmptyToken f e
    token_told e t =
        let h = t.1 in
        let same : h.form ≡ f = one h.form h.normal in (
          h.place,
          h.token,
          subst (λ (x : FlatGrammar). IsFirstPlace (IsEmptyToken x) h.place) same h.first,
          subst (λ (x : FlatGrammar). slice_get x.tokens h.place ≡ Some h.token) same h.there,
          t.2 ∙ ap fault.EmptyToken h.name_is,
        )

    rule_told : (e : NFault) → FindsEmptyRule g e → TellsEmptyRule f e
    rule_told e t =
        let h = t.1 in
        let same : h.form ≡ f = one h.form h.normal in (
          h.place,
          h.rule,
          subst (λ (x : FlatGrammar). IsFirstPlace (fit.IsEmptyRule x) h.place) same h.first,
          subst (λ (x : FlatGrammar). slice_get x.rules h.place ≡ Some h.rule) same h.there,
          t.2 ∙ ap fault.EmptyRule h.name_is,
        )

    cycle_told : (e : NFault) → FindsCyclic g e → TellsCycle f e
    cycle_told e t =
        let h = t.1 in
        let same : h.form ≡ f = one h.form h.normal in (
          h.place,
          h.rule,
          h.owner,
          subst (λ (x : FlatGrammar). IsFirstPlace (fit.IsCyclic x) h.place) same h.first,
          subst (λ (x : FlatGrammar). slice_get x.rules h.place ≡ Some h.rule) same h.there,
          subst (λ (x : FlatGrammar). fit.HasRule x h.rule.owner h.owner) same h.owner_there,
          t.2 ∙ ap fault.Cyclic h.name_is,
        )

    -- nothing that the form tells, nothing that the grammar is refused for
    pub form_none : Nothing (TellsInForm f) → Nothing (FindsInForm g)
    form_none none found (inl x) = none found (inl (token_told found x))
    form_none none found (inr (no_token, inl x)) = none found (inr (λ e t. no_token e (token_found e t), inl (rule_told found x)))
    form_none none found (inr (no_token, inr (no_rule, x))) =
        none found (inr (λ e t. no_token e (token_found e t), inr (λ e t. no_rule e (rule_found e t), cycle_told found x)))

    pub form_found : (e : NFault) → HasCause (TellsInForm f) e → HasCause (FindsInForm g) e
    form_found e told caused = by (told caused)
      where
        by : TellsInForm f e → FindsInForm g e
        by (inl x) = inl (token_found e x)
        by (inr (no_token, inl x)) = inr (λ d t. no_token d (token_told d t), inl (rule_found e x))
        by (inr (no_token, inr (no_rule, x))) = inr (λ d t. no_token d (token_told d t), inr (λ d t. no_rule d (rule_told d t), cycle_found e x))
