-- The productions of a normal form are few and short, and their steps name what is there.
use Rattle.std.proofs.Common.{◌≡◌, sym, subst, refl, ℕ, ℤ, ◌+◌, ◌-◌, ◌<◌, inl, inr, ⊎_elim, List, [], ◌∷◌, ◌++◌, map, length, Option, Some, None, All, arith}
use Rattle.std.specs.List.{Contains}
use Rattle.std.proofs.lemmas.Bool.{cases_lt}
use Rattle.std.proofs.lemmas.List.Elements.{All-nil, All-cons, All-contains, Contains-append_left, Contains-append_right, Contains-append_cases}
use Rattle.std.proofs.lemmas.Option.{slice_get_cases}
use Rattle.ts_core.specs.declared.flat.Alias.{Alias}
use Rattle.ts_core.specs.declared.flat.FlatGrammar.{FlatGrammar}
use Rattle.ts_core.specs.declared.flat.FlatRule.{FlatRule}
use Rattle.ts_core.specs.declared.flat.Prec.{Prec}
use Rattle.ts_core.specs.declared.flat.Production.{Production}
use Rattle.ts_core.specs.declared.rule.Grammar.{Grammar}
use Rattle.ts_core.specs.declared.rule.Rule.{Rule}
use Rattle.spec_tables.specs.Fit.{IfThere, IsPrec, IsShort, IsFitStep, IsFitProduction}
use Rattle.ts_pattern.specs.Reads.{Reads}
use Rattle.ts_rules.specs.declared.tree.Alternative.{Alternative}
use Rattle.ts_rules.specs.declared.tree.NumberedStep.{NumberedStep}
use Rattle.ts_rules.specs.Alternatives.{Alternatives, alternative, step_at}
use Rattle.ts_rules.specs.FileGrammar.{IsFileGrammar}
use Rattle.ts_rules.specs.Normal.{IsNormal}
use Rattle.ts_rules.specs.Numbers.{Numbers, Lists, IsInlined, HasSymbol, alts, first_inlined, outermost}
use Rattle.ts_rules.specs.Productions.{or_else, prec_or, marked_by, ended_by, inserted, replaced_by, IsInner, Stays, Becomes, stays, replaced, AllBecome, none_left, one_more, alias_of, flat_step, unless_blank, filled, again}
use Rattle.ts_rules.specs.Sights.{NamedRule}
use Rattle.ts_productions.specs.Grammars.{rule_alternatives, repetition_alternatives, all_rule_alternatives, all_repetition_alternatives, symbol_alternatives}
use Rattle.ts_normalise.proofs.ListLemmas.{there, none_in, head_in, tail_in, member_cases, in_flat, picked}
use Rattle.ts_normalise.proofs.FitBoundLemmas.{bound, repetition_number, rule_bounded, content_bounded}
use Rattle.ts_normalise.proofs.FitLimitLemmas.{all_grow, few_steps, symbol_count}
use Rattle.ts_normalise.proofs.FitRefusalLemmas.{IsUnrefused}
use Rattle.ts_normalise.proofs.FitSightLemmas.{mapped_in}
use Rattle.ts_normalise.proofs.FitTreeLemmas.{IsSound, AreSound, InRange, sound_append, alts_sound}

pub all_of : {X : Type 0} (P : X → Type 0) (xs : List X) → ((x : X) → Contains xs x → P x) → All P xs
all_of P [] h = All-nil P
all_of P (x ∷ xs) h = All-cons P x xs (h x (head_in x xs)) (all_of P xs (λ y w. h y (tail_in x y xs w)))

-- ---- inlining

or_there : {X : Type 0} (P : X → Type 0) (a b : Option X) → IfThere P a → IfThere P b → IfThere P (or_else a b)
or_there P None b h k = k
or_there P (Some x) b h k = h

prec_there : (f : FlatGrammar) (p q : Prec) → IsPrec f p → IsPrec f q → IsPrec f (prec_or p q)
prec_there f Prec.Absent q h k = k
prec_there f (Prec.Number value) q h k = h
prec_there f (Prec.Name name) q h k = h

module _ (n : Numbers) (f : FlatGrammar) (top : ℕ) where
  marked_sound : (s t : NumberedStep) → IsSound n f top s → IsSound n f top t → IsSound n f top (marked_by s t)
  marked_sound s t h k = record {
    symbol = k.symbol;
    prec = k.prec;
    field = or_there (λ (field : ℕ). field < length f.fields) s.field t.field h.field k.field;
    alias = or_there (λ (a : ℕ). IsShort (n.alias_at a).name) s.alias t.alias h.alias k.alias;
  }

  ended_sound : (s t : NumberedStep) → IsSound n f top s → IsSound n f top t → IsSound n f top (ended_by s t)
  ended_sound s t h k = record { symbol = k.symbol; prec = prec_there f t.prec s.prec k.prec h.prec; field = k.field; alias = k.alias }

  inserted_sound : (step : NumberedStep) (ss : List NumberedStep) → IsSound n f top step → ((s : NumberedStep) → Contains ss s → IsSound n f top s)
      → (s : NumberedStep) → Contains (inserted step ss) s → IsSound n f top s
  inserted_sound step [] h k s w = absurd (none_in s w)
  inserted_sound step (t ∷ []) h k s w = ⊎_elim
      (λ e. subst (IsSound n f top) (sym e) (ended_sound step (marked_by step t) h (marked_sound step t h (k t (head_in t [])))))
      (λ u. absurd (none_in s u))
      (member_cases (ended_by step (marked_by step t)) s [] w)
  inserted_sound step (t ∷ r ∷ rs) h k s w = ⊎_elim
      (λ e. subst (IsSound n f top) (sym e) (marked_sound step t h (k t (head_in t (r ∷ rs)))))
      (λ u. inserted_sound step (r ∷ rs) h (λ q v. k q (tail_in t q (r ∷ rs) v)) s u)
      (member_cases (marked_by step t) s (inserted step (r ∷ rs)) w)

  module _ (Inner : ℕ → Alternatives → Type 0) (inner_sound : (k : ℕ) (xs : Alternatives) → Inner k xs → AreSound n f top xs) where
    -- each step is sound and stays
    abbrev pub AreKept : Alternatives → Type 0
    AreKept xs = (p : Alternative) (s : NumberedStep) → Contains xs p → Contains p.steps s → IsSound n f top s × Stays Inner s

    kept_append : (xs ys : Alternatives) → AreKept xs → AreKept ys → AreKept (xs ++ ys)
    kept_append xs ys h k p s w v = ⊎_elim (λ u. h p s u v) (λ u. k p s u v) (Contains-append_cases xs ys p w)

    replaced_sound : (dynamic : ℤ) (before : List NumberedStep) (step : NumberedStep) (after : List NumberedStep) (inner : Alternatives)
        → ((s : NumberedStep) → Contains (before ++ step ∷ after) s → IsSound n f top s) → AreSound n f top inner → AreSound n f top (map (replaced_by dynamic before step after) inner)
    replaced_sound dynamic before step after inner h k p s w v =
        let r = mapped_in (replaced_by dynamic before step after) inner p w in
        let in_step : IsSound n f top step = h step (Contains-append_right before (step ∷ after) step (head_in step after)) in
        ⊎_elim
        (λ front. ⊎_elim
        (λ here. h s (Contains-append_left before (step ∷ after) s here))
        (λ new. inserted_sound step r.0.steps in_step (λ t u. k r.0 t r.1 u) s new)
        (Contains-append_cases before (inserted step r.0.steps) s front))
        (λ later. h s (Contains-append_right before (step ∷ after) s (tail_in step s after later)))
        (Contains-append_cases (before ++ inserted step r.0.steps) after s (subst (λ (q : Alternative). Contains q.steps s) (sym r.2) v))

    mutual
      become_kept : (p : Alternative) (all : Alternatives) → ((s : NumberedStep) → Contains p.steps s → IsSound n f top s) → Becomes Inner p all → AreKept all
      become_kept _ _ h (stays p stay) = λ q s w v. ⊎_elim
          (λ e. let u : Contains p.steps s = subst (λ (z : Alternative). Contains z.steps s) e v in (h s u, All-contains (Stays Inner) p.steps s stay u))
          (λ none. absurd (none_in q none))
          (member_cases p q [] w)
      become_kept _ _ h (replaced dynamic before step after inner all stay is become) =
          all_kept (map (replaced_by dynamic before step after) inner) all (replaced_sound dynamic before step after inner h (inner_sound step.symbol inner is)) become

      pub all_kept : (ps all : Alternatives) → AreSound n f top ps → AllBecome Inner ps all → AreKept all
      all_kept _ _ h none_left = λ q s w v. absurd (none_in q w)
      all_kept _ _ h (one_more p ps qs rs one more) =
          kept_append qs rs (become_kept p qs (λ s v. h p s (head_in p ps) v) one) (all_kept ps rs (λ q s w v. h q s (tail_in p q ps w) v) more)

-- ---- repetitions

filled_in : (ps : Alternatives) (q : Alternative) → Contains (filled ps) q → Contains ps q
filled_in [] q w = absurd (none_in q w)
filled_in (p ∷ ps) q w = ⊎_elim
    (λ here. subst (λ (z : Alternative). Contains (p ∷ ps) z) (sym (only p.steps here)) (head_in p ps))
    (λ later. tail_in p q ps (filled_in ps q later))
    (Contains-append_cases (unless_blank p p.steps) (filled ps) q w)
  where
    only : (ss : List NumberedStep) → Contains (unless_blank p ss) q → q ≡ p
    only [] v = absurd (none_in q v)
    only (s ∷ ss) v = ⊎_elim (λ e. e) (λ none. absurd (none_in q none)) (member_cases p q [] v)

module _ (n : Numbers) (f : FlatGrammar) (top : ℕ) where
  filled_sound : (ps : Alternatives) → AreSound n f top ps → AreSound n f top (filled ps)
  filled_sound ps h q s w v = h q s (filled_in ps q w) v

  again_sound : (k : ℕ) (ps : Alternatives) → InRange n f top k → AreSound n f top ps → AreSound n f top (again k ps)
  again_sound k ps r h q s w v =
      let u = mapped_in (λ (p : Alternative). alternative p.dynamic (step_at k outermost ∷ p.steps)) ps q w in
      ⊎_elim
      (λ e. subst (IsSound n f top) (sym e) (record { symbol = r; prec = tt; field = tt; alias = tt }))
      (λ later. h u.0 s u.1 later)
      (member_cases (step_at k outermost) s u.0.steps (subst (λ (z : Alternative). Contains z.steps s) (sym u.2) v))

-- ---- the steps of a normal form

module _ (g : Grammar) (f : FlatGrammar) (normal : IsNormal Reads g f) (file : IsFileGrammar g) (sane : IsUnrefused g) where
  abbrev Sound : Alternatives → Type 0
  Sound = AreSound normal.numbers f (bound g f normal)

  rule_sound : (r : NamedRule) → Contains g.rules r → Sound (alts normal.numbers r.1)
  rule_sound r w = alts_sound normal.numbers f (bound g f normal) r.1 (rule_bounded g f normal file sane.defined r w)

  inner_sound : (k : ℕ) (xs : Alternatives) → IsInner normal.numbers normal.lists k xs → Sound xs
  inner_sound k xs is =
      let p = picked (λ (r : NamedRule). IsInlined g r.0) g.rules normal.lists.inlined is.1 normal.are_lists.inlined (there normal.lists.inlined is.0 is.1 is.2) in
      subst Sound (sym is.4) (rule_sound is.1 p.0)

  content_sound : (c : Rule) → Contains normal.lists.contents c → Sound (repetition_alternatives normal.numbers c)
  content_sound c w =
      let n : Numbers = normal.numbers in
      let top : ℕ = bound g f normal in
      let once : Sound (filled (alts n c)) = filled_sound n f top (alts n c) (alts_sound n f top c (content_bounded g f normal file sane.defined c w)) in
      let r = repetition_number g f normal c w in
      let above = r.0 in
      let below = r.1 in
      sound_append n f top (filled (alts n c)) (again (n.repetition c) (filled (alts n c))) once (again_sound n f top (n.repetition c) (filled (alts n c)) (above, omega (arith, below)) once)

  rules_sound : Sound (all_rule_alternatives normal.numbers normal.lists.rules)
  rules_sound p s w v =
      let u = in_flat (rule_alternatives normal.numbers) normal.lists.rules p w in
      let r = picked (HasSymbol g) g.rules normal.lists.rules u.0 normal.are_lists.rules u.1 in
      rule_sound u.0 r.0 p s u.2 v

  contents_sound : Sound (all_repetition_alternatives normal.numbers normal.lists.contents)
  contents_sound p s w v = let u = in_flat (repetition_alternatives normal.numbers) normal.lists.contents p w in content_sound u.0 u.1 p s u.2 v

  symbols_sound : Sound (symbol_alternatives normal.numbers normal.lists)
  symbols_sound = sound_append normal.numbers f (bound g f normal) (all_rule_alternatives normal.numbers normal.lists.rules) (all_repetition_alternatives normal.numbers normal.lists.contents) rules_sound contents_sound

  -- a step that stays is that of no inlined rule
  stays_below : (s : NumberedStep) → s.symbol < bound g f normal → Stays (IsInner normal.numbers normal.lists) s → s.symbol < first_inlined normal.lists
  stays_below s below stay = ⊎_elim
      (λ lt. lt)
      (λ ge.
      let x : Lists = normal.lists in
      let k : ℕ = s.symbol - first_inlined x in
      let e : s.symbol ≡ first_inlined x + k = omega arith in
      elim (slice_get_cases x.inlined k).1 [
        | inl u ↦ absurd (stay (alts normal.numbers u.0.1) (k, u.0, u.2, e, refl))
        | inr u ↦ let past = u.0 in absurd (omega (arith, past, e, below))
      ])
      (cases_lt s.symbol (first_inlined normal.lists))

  flat_alias : (a : Option ℕ) → IfThere (λ (k : ℕ). IsShort (normal.numbers.alias_at k).name) a → IfThere (λ (z : Alias). IsShort z.name) (alias_of normal.numbers a)
  flat_alias None h = tt
  flat_alias (Some k) h = h

  flat_fit : (s : NumberedStep) → IsSound normal.numbers f (bound g f normal) s → Stays (IsInner normal.numbers normal.lists) s → IsFitStep f (flat_step normal.numbers s)
  flat_fit s h stay = record {
    symbol = (
        let lt = stays_below s h.symbol.1 stay in
        let e = symbol_count g f normal in
        omega (arith, lt, e));
    not_end = h.symbol.0;
    prec = h.prec;
    field = h.field;
    alias = flat_alias s.alias h.alias;
  }

  pub fit_production : (r : FlatRule) (p : Production) → Contains f.rules r → Contains r.productions p → IsFitProduction f p
  fit_production r p w v =
      let n : Numbers = normal.numbers in
      let x : Lists = normal.lists in
      let grows = all_grow g f normal in
      let u = grows.covers r p w v in
      let kept = all_kept n f (bound g f normal) (IsInner n x) inner_sound (symbol_alternatives n x) grows.all symbols_sound grows.become in
      record {
        few = few_steps g f normal sane r p w v;
        steps = all_of (IsFitStep f) p.steps (λ t c.
            let m = mapped_in (flat_step n) u.0.steps t (subst (λ (q : Production). Contains q.steps t) (sym u.2) c) in
            let both = kept u.0 m.0 u.1 m.1 in
            subst (IsFitStep f) m.2 (flat_fit m.0 both.0 both.1));
      }
