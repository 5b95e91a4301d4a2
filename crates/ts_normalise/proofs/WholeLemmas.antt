-- The causes of the whole, and its two laws: what is due is what is given.
use Rattle.std.proofs.Common.{◌≡◌, sym, ap, subst, refl, inl, inr, ⊎_elim, List, [], ◌∷◌, map, ◌≤◌, Some, Result, Ok, Err, IfOk, IfErr}
use Rattle.std.specs.List.{Contains}
use Rattle.std.proofs.lemmas.List.Elements.{Contains-append_left, Contains-append_right, Contains-append_cases}
use Rattle.ts_base.specs.Bytes.{Bytes}
use Rattle.ts_core.specs.declared.flat.FlatGrammar.{FlatGrammar}
use Rattle.ts_core.specs.declared.limits.Limited.TheVariants as limited
use Rattle.ts_core.specs.declared.rule.Grammar.{Grammar}
use Rattle.ts_core.specs.declared.rule.Rule.{Rule}
use Rattle.ts_core.specs.declared.rule.Rule.TheViews.{out-Rule}
use Rattle.spec_tables.specs.Fit as fit
use Rattle.ts_form.specs.declared.fault.FormFault.{FormFault}
use Rattle.ts_form.specs.declared.fault.FormFault.TheVariants as form_fault
use Rattle.ts_form.specs.Limits.{IsFormFault, IsWithinLimits}
use Rattle.ts_pattern.specs.Reads.{Reads}
use Rattle.ts_rules.specs.Causes.{IsUndefined, IsBadInline, IsBadWord, names_used, rule_names}
use Rattle.ts_rules.specs.FileGrammar.{IsFileGrammar}
use Rattle.ts_rules.specs.FirstSights.{Not, Clear}
use Rattle.ts_rules.specs.Normal.{IsNormal, ArePatterns}
use Rattle.ts_rules.specs.Sights.{NamedRule, Sight, Source, sights, rule_sights, extra_sights, walk, patterns_in, pattern_layer}
use Rattle.ts_rules.specs.Tokens.{Patterns}
use Rattle.ts_tokens.specs.Patterns.{PlacedPattern, IsUnreadable, placed, placed_in, placed_patterns, rule_patterns, extra_patterns}
use Rattle.ts_normalise.specs.declared.fault.NFault.{NFault}
use Rattle.ts_normalise.specs.declared.fault.NFault.TheVariants as fault
use Rattle.ts_normalise.specs.Faults.{form_told}
use Rattle.ts_normalise.specs.Forms.{HasOwners, TellsInForm}
use Rattle.ts_normalise.specs.Refusals.{Cause, Nothing, Before, HasCause, FindsUndefined, FindsSymbolInToken, FindsBadInline, FindsBadWord, FindsBadExtra, FindsInWords, FindsInRules, FindsInTrees, FindsBadPattern, FindsMany, FindsInForm, IsRefused, IsDueAnswer, Flattens}
use Rattle.ts_normalise.proofs.ListLemmas.{none_in, head_in, tail_in, member_cases, flat_in, in_flat, first_in}
use Rattle.ts_normalise.proofs.RefusalLemmas.{nothing_first, clear_of, defined}
use Rattle.ts_normalise.proofs.CheckLemmas.{nothing_both, first_cause, later_cause}
use Rattle.ts_normalise.proofs.FormLemmas.{form_none, form_found}
use Rattle.ts_normalise.proofs.OwnerLemmas.{few_symbols, have_owners}

nothing_later : (A B : Cause) → Nothing (Before A B) → Nothing B
nothing_later A B none found b = none found (inr ((λ e a. none e (inl a)), b))

-- ---- what the trees leave

module _ (g : Grammar) where
  pub all_defined : Nothing (FindsInTrees g) → Clear (IsUndefined g) (names_used g)
  all_defined none = defined g (nothing_first (FindsUndefined g) (Before (FindsSymbolInToken g) (FindsInRules g)) none)

  in_rules_none : Nothing (FindsInTrees g) → Nothing (FindsInRules g)
  in_rules_none none =
      nothing_later (FindsSymbolInToken g) (FindsInRules g) (nothing_later (FindsUndefined g) (Before (FindsSymbolInToken g) (FindsInRules g)) none)

  pub all_inlined : Nothing (FindsInTrees g) → Clear (IsBadInline g) (rule_names g)
  all_inlined none =
      let inline : Nothing (FindsBadInline g) = nothing_first (FindsBadInline g) (FindsInWords g) (in_rules_none none) in
      clear_of (IsBadInline g) (rule_names g) (λ name f. inline (fault.BadInline name) (name, f, refl))

  pub good_word : Nothing (FindsInTrees g) → (name : Bytes) → g.word ≡ Some name → Not (IsBadWord g name)
  good_word none name is bad =
      nothing_first (FindsBadWord g) (FindsBadExtra g) (nothing_later (FindsBadInline g) (FindsInWords g) (in_rules_none none)) (fault.BadWord name) (name, is, bad, refl)

  -- ---- patterns

  in_placed : (rule : Bytes) (found : List Source) (p : PlacedPattern) → Contains (map (placed rule) found) p → Contains found p.source
  in_placed rule [] p w = absurd (none_in p w)
  in_placed rule (s ∷ found) p w = ⊎_elim
      (λ e. subst (λ (z : Source). Contains (s ∷ found) z) (sym (ap (λ (q : PlacedPattern). q.source) e)) (head_in s found))
      (λ v. tail_in s p.source found (in_placed rule found p v))
      (member_cases (placed rule s) p (map (placed rule) found) w)

  in_walk : (seen : List Sight) (s : Source) → ((v : Sight) → Contains seen v → Contains (walk g) v) → Contains (patterns_in seen) s → Contains (patterns_in (walk g)) s
  in_walk seen s wider w =
      let r = in_flat (λ (v : Sight). pattern_layer (out-Rule v.tree)) seen s w in
      flat_in (λ (v : Sight). pattern_layer (out-Rule v.tree)) (walk g) r.0 s (wider r.0 r.1) r.2

  placed_seen : (p : PlacedPattern) → Contains (placed_patterns g) p → Contains (patterns_in (walk g)) p.source
  placed_seen p w = ⊎_elim in_rules in_extras (Contains-append_cases (rule_patterns g.rules) (extra_patterns g.extras) p w)
    where
      in_rules : Contains (rule_patterns g.rules) p → Contains (patterns_in (walk g)) p.source
      in_rules v =
          let r = in_flat (λ (rule : NamedRule). placed_in rule.0 (sights rule.1)) g.rules p v in
          in_walk (sights r.0.1) p.source
          (λ s u. Contains-append_left (rule_sights g) (extra_sights g) s (flat_in (λ (rule : NamedRule). sights rule.1) g.rules r.0 s r.1 u))
          (in_placed r.0.0 (patterns_in (sights r.0.1)) p r.2)

      in_extras : Contains (extra_patterns g.extras) p → Contains (patterns_in (walk g)) p.source
      in_extras v =
          let r = in_flat (λ (tree : Rule). placed_in [] (sights tree)) g.extras p v in
          in_walk (sights r.0) p.source
          (λ s u. Contains-append_right (rule_sights g) (extra_sights g) s (flat_in sights g.extras r.0 s r.1 u))
          (in_placed [] (patterns_in (sights r.0)) p r.2)

  pub pattern_none : (pattern : Patterns) → ArePatterns Reads g pattern → Nothing (FindsBadPattern g)
  pattern_none pattern read found f =
      let refused = f.2 in
      let p = refused.pattern in
      refused.first.holds (pattern p.source.0 p.source.1) (read p.source (placed_seen p (first_in IsUnreadable (placed_patterns g) p refused.first)))

  -- ---- limits

  pub many_none : IsWithinLimits g → Nothing (FindsMany g)
  many_none h found (inl x) = h.symbols x.0
  many_none h found (inr (n1, inl x)) = h.names x.0
  many_none h found (inr (n1, inr (n2, inl x))) = h.productions x.0
  many_none h found (inr (n1, inr (n2, inr (n3, inl x)))) = h.steps x.0
  many_none h found (inr (n1, inr (n2, inr (n3, inr (n4, x))))) = h.positions x.0

  pub many_found : (e : FormFault) → IsFormFault g e → HasCause (FindsMany g) (form_told e)
  many_found (form_fault.Limit limited.Symbols) h caused = inl (h, refl)
  many_found (form_fault.Limit limited.Fields) h caused = inr ((λ e x. h.0 x.0), inl (h.1, refl))
  many_found (form_fault.Limit limited.Productions) h caused = inr ((λ e x. h.0 x.0), inr ((λ e x. h.1 x.0), inl (h.2, refl)))
  many_found (form_fault.Limit limited.Steps) h caused = inr ((λ e x. h.0 x.0), inr ((λ e x. h.1 x.0), inr ((λ e x. h.2 x.0), inl (h.3, refl))))
  many_found (form_fault.Limit limited.Positions) h caused = inr ((λ e x. h.0 x.0), inr ((λ e x. h.1 x.0), inr ((λ e x. h.2 x.0), inr ((λ e x. h.3 x.0), (h.4, refl)))))
  many_found (form_fault.Limit limited.File) h caused = absurd h
  many_found (form_fault.Limit limited.Rules) h caused = absurd h
  many_found form_fault.Memory h caused = absurd (caused refl)

  -- ---- all of them

  abbrev FromForm : Cause
  FromForm = FindsInForm g

  abbrev FromLimits : Cause
  FromLimits = Before (FindsMany g) FromForm

  abbrev FromPatterns : Cause
  FromPatterns = Before (FindsBadPattern g) FromLimits

  pub by_trees : (e : NFault) → HasCause (FindsInTrees g) e → HasCause (IsRefused g) e
  by_trees e h = first_cause (FindsInTrees g) FromPatterns e h

  pub by_pattern : (e : NFault) → Nothing (FindsInTrees g) → HasCause (FindsBadPattern g) e → HasCause (IsRefused g) e
  by_pattern e a h = later_cause (FindsInTrees g) FromPatterns e a (first_cause (FindsBadPattern g) FromLimits e h)

  pub by_limit : (e : NFault) → Nothing (FindsInTrees g) → Nothing (FindsBadPattern g) → HasCause (FindsMany g) e → HasCause (IsRefused g) e
  by_limit e a b h =
      later_cause (FindsInTrees g) FromPatterns e a
      (later_cause (FindsBadPattern g) FromLimits e b (first_cause (FindsMany g) FromForm e h))

  -- a normal form is the only one
  abbrev pub IsOnly : FlatGrammar → Type 0
  IsOnly f = (h : FlatGrammar) → IsNormal Reads g h → h ≡ f

  pub by_form : (f : FlatGrammar) (e : NFault) → Nothing (FindsInTrees g) → Nothing (FindsBadPattern g) → Nothing (FindsMany g) → IsNormal Reads g f → IsOnly f → HasCause (TellsInForm f) e
      → HasCause (IsRefused g) e
  by_form f e a b c normal only h =
      later_cause (FindsInTrees g) FromPatterns e a
      (later_cause (FindsBadPattern g) FromLimits e b
      (later_cause (FindsMany g) FromForm e c (form_found g f normal only e h)))

  pub flattened : (f : FlatGrammar) → Nothing (FindsInTrees g) → Nothing (FindsBadPattern g) → Nothing (FindsMany g) → IsNormal Reads g f → IsOnly f → Nothing (TellsInForm f) → Flattens g f
  flattened f a b c normal only d = record {
    normal = normal;
    accepted =
        nothing_both (FindsInTrees g) FromPatterns a
        (nothing_both (FindsBadPattern g) FromLimits b
        (nothing_both (FindsMany g) FromForm c (form_none g f normal only d)));
  }

  -- ---- what a normal form has before it is known to be accepted

  pub form_symbols : (f : FlatGrammar) → IsNormal Reads g f → Nothing (FindsMany g) → fit.symbols_of f ≤ fit.most_symbols
  form_symbols f normal none = few_symbols g f normal (λ many. none (fault.Limit limited.Symbols) (inl (many, refl)))

  pub form_owners : (f : FlatGrammar) → IsFileGrammar g → IsNormal Reads g f → Nothing (FindsInTrees g) → HasOwners f
  form_owners f file normal none = have_owners g f normal file (all_inlined none)

  -- ---- what is due is what is given

  pub due_refusal : ((e h : NFault) → IsRefused g e → IsRefused g h → e ≡ h) → ((e : NFault) (f : FlatGrammar) → IsRefused g e → Flattens g f → ⊥) → (r : Result FlatGrammar NFault)
      → IfOk r (Flattens g) → IfErr r (HasCause (IsRefused g)) → (e : NFault) → IsRefused g e → IsDueAnswer (Err e) r
  due_refusal one never (Ok f) normal caused e refused told = absurd (never e f refused normal)
  due_refusal one never (Err h) normal caused e refused told = ap Err (one h e (caused (λ is. told (ap Err is))) refused)

  pub due_form : ((f h : FlatGrammar) → Flattens g f → Flattens g h → f ≡ h) → ((e : NFault) (f : FlatGrammar) → IsRefused g e → Flattens g f → ⊥) → (r : Result FlatGrammar NFault)
      → IfOk r (Flattens g) → IfErr r (HasCause (IsRefused g)) → (f : FlatGrammar) → Flattens g f → IsDueAnswer (Ok f) r
  due_form one never (Ok h) normal caused f flat told = ap Ok (one h f normal flat)
  due_form one never (Err h) normal caused f flat told = absurd (never h f (caused (λ is. told (ap Err is))) flat)
