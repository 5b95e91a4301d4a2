-- What is counted of a grammar does not depend on its numbers: by two numberings the alternatives are
-- alike, before inlining and after it.
use Rattle.std.proofs.Common.{◌≡◌, ◌∙◌, sym, ap, subst, refl, ℕ, suc, ◌<◌, inl, inr, ⊎_elim, List, [], ◌∷◌, ◌++◌, map, length, All}
use Rattle.std.specs.List.{Contains, flat_map}
use Rattle.std.proofs.lemmas.List.Elements.{All-head, All-tail, All-cons, All-nil}
use Rattle.spec_tables.specs.Fit.{most_productions, most_steps}
use Rattle.ts_core.specs.declared.rule.Grammar.{Grammar}
use Rattle.ts_core.specs.declared.rule.Rule.{Rule}
use Rattle.ts_productions.specs.Grammars.{IsCounted, CountsMany, CountsLong, rule_alternatives, repetition_alternatives, all_rule_alternatives, all_repetition_alternatives, symbol_alternatives, all_alternatives}
use Rattle.ts_rules.specs.declared.tree.Alternative.{Alternative}
use Rattle.ts_rules.specs.declared.tree.NumberedStep.{NumberedStep}
use Rattle.ts_rules.specs.Alternatives.{Alternatives, alternative}
use Rattle.ts_rules.specs.Causes.{IsUndefined, names_used}
use Rattle.ts_rules.specs.FirstSights.{Each, end, both, Clear}
use Rattle.ts_rules.specs.Numbers.{Numbers, Lists, AreLists, AreNumbers, IsInlined, HasSymbol, alts}
use Rattle.ts_rules.specs.Productions.{replaced_by, IsInner, Stays, Becomes, stays, replaced, AllBecome, none_left, one_more, filled, again}
use Rattle.ts_rules.specs.Sights.{NamedRule}
use Rattle.ts_form.specs.Limits.{Counts, HasManyProductions, HasManySteps}
use Rattle.ts_form.proofs.ListLemmas.{head_in, tail_in, none_in, member_cases, picked}
use Rattle.ts_form.proofs.LikeLemmas.{StepLike, AltLike, AltsLike, each_append, each_map}
use Rattle.ts_form.proofs.BecomeLemmas.{So, replaced_like, symbols_like, filled_like, again_like, inner_same}
use Rattle.ts_form.proofs.AgreeLemmas.{rule_alike, inlined_alike, content_alike, repetition_same}
use Rattle.ts_form.proofs.NormalLemmas.{one_lists}

module _ (n m : Numbers) where
  abbrev Steps : NumberedStep → NumberedStep → Type 0
  Steps = StepLike So n m

  abbrev Alts : Alternative → Alternative → Type 0
  Alts = AltLike So n m

  -- ---- as many, and as long

  pub as_many : (ps qs : Alternatives) → Each Alts ps qs → length ps ≡ length qs
  as_many _ _ end = refl
  as_many _ _ (both p q ps qs h rest) = ap suc (as_many ps qs rest)

  as_long : (ss ts : List NumberedStep) → Each Steps ss ts → length ss ≡ length ts
  as_long _ _ end = refl
  as_long _ _ (both s t ss ts h rest) = ap suc (as_long ss ts rest)

  pub one_as_long : (ps qs : Alternatives) (q : Alternative) → Each Alts ps qs → Contains qs q → (p : Alternative) × Contains ps p × (length p.steps ≡ length q.steps)
  one_as_long _ _ q end w = absurd (none_in q w)
  one_as_long _ _ q (both a b ps qs h rest) w = ⊎_elim
      (λ e. (a, head_in a ps, as_long a.steps b.steps h.steps ∙ ap (λ (z : Alternative). length z.steps) (sym e)))
      (λ v. let r = one_as_long ps qs q rest v in (r.0, tail_in a r.0 ps r.1, r.2))
      (member_cases b q qs w)

  pub flat_like : {X : Type 0} (f h : X → Alternatives) (xs : List X) → ((x : X) → Contains xs x → Each Alts (f x) (h x)) → Each Alts (flat_map f xs) (flat_map h xs)
  flat_like f h [] alike = end
  flat_like f h (x ∷ xs) alike = each_append Alts (f x) (flat_map f xs) (h x) (flat_map h xs) (alike x (head_in x xs)) (flat_like f h xs (λ y w. alike y (tail_in x y xs w)))

  -- ---- inlining by one numbering follows inlining by the other

  -- steps beside steps with one in the middle
  record Split (ss cs : List NumberedStep) (t : NumberedStep) (vs : List NumberedStep) : Type 0 where
    before : List NumberedStep
    step : NumberedStep
    after : List NumberedStep
    is : ss ≡ before ++ step ∷ after
    before_like : Each Steps before cs
    step_like : Steps step t
    after_like : Each Steps after vs

  split : (ss cs : List NumberedStep) (t : NumberedStep) (vs : List NumberedStep) → Each Steps ss (cs ++ t ∷ vs) → Split ss cs t vs
  split _ [] t vs (both s _ us _ h rest) = record { before = []; step = s; after = us; is = refl; before_like = end; step_like = h; after_like = rest }
  split _ (c ∷ cs) t vs (both s _ us _ h rest) =
      let r = split us cs t vs rest in
      record { before = s ∷ r.before; step = r.step; after = r.after; is = ap (λ (zs : List NumberedStep). s ∷ zs) r.is; before_like = both s c r.before cs h r.before_like; step_like = r.step_like; after_like = r.after_like }

  module _ (Inner Other : ℕ → Alternatives → Type 0)
      (same : (k : ℕ) (xs ys : Alternatives) → Inner k xs → Other k ys → Each Alts xs ys)
      (onward : (k : ℕ) (xs : Alternatives) → Inner k xs → (ys : Alternatives) × Other k ys)
      (back : (k : ℕ) (ys : Alternatives) → Other k ys → (xs : Alternatives) × Inner k xs) where
    all_stay : (ss ts : List NumberedStep) → Each Steps ss ts → All (Stays Other) ts → All (Stays Inner) ss
    all_stay _ _ end a = All-nil (Stays Inner)
    all_stay _ _ (both s t ss ts h rest) a = All-cons (Stays Inner) s ss
        (λ xs is. let w = onward s.symbol xs is in All-head (Stays Other) t ts a w.0 (subst (λ (k : ℕ). Other k w.0) (symbols_like n m s t h) w.1))
        (all_stay ss ts rest (All-tail (Stays Other) t ts a))

    mutual
      become_there : (p q : Alternative) (qs : Alternatives) → Alts p q → Becomes Other q qs → (ps : Alternatives) × Becomes Inner p ps × Each Alts ps qs
      become_there p _ _ h (stays q b) = (p ∷ [], stays p (all_stay p.steps q.steps h.steps b), both p q [] [] h end)
      become_there p _ _ h (replaced e ds t vs ys more stay too becomes) =
          let r = split p.steps ds t vs h.steps in
          let w = back t.symbol ys too in
          let is : Inner r.step.symbol w.0 = subst (λ (k : ℕ). Inner k w.0) (sym (symbols_like n m r.step t r.step_like)) w.1 in
          let next : Each Alts (map (replaced_by p.dynamic r.before r.step r.after) w.0) (map (replaced_by e ds t vs) ys)
          = each_map Alts Alts (replaced_by p.dynamic r.before r.step r.after) (replaced_by e ds t vs)
          (λ x y k. replaced_like n m p.dynamic e r.before ds r.step t r.after vs x y h.dynamic r.before_like r.step_like r.after_like k)
          w.0 ys (same t.symbol w.0 ys w.1 too) in
          let all = all_there (map (replaced_by p.dynamic r.before r.step r.after) w.0) (map (replaced_by e ds t vs) ys) more next becomes in
          let made : Becomes Inner (alternative p.dynamic (r.before ++ r.step ∷ r.after)) all.0
          = replaced p.dynamic r.before r.step r.after w.0 all.0 (all_stay r.before ds r.before_like stay) is all.1 in
          (all.0, subst (λ (ss : List NumberedStep). Becomes Inner (alternative p.dynamic ss) all.0) (sym r.is) made, all.2)

      all_there : (ps qs ss : Alternatives) → Each Alts ps qs → AllBecome Other qs ss → (rs : Alternatives) × AllBecome Inner ps rs × Each Alts rs ss
      all_there _ _ _ end none_left = ([], none_left, end)
      all_there _ _ _ (both p q ps qs h rest) (one_more _ _ ys zs two others) =
          let one = become_there p q ys h two in
          let more = all_there ps qs zs rest others in
          (one.0 ++ more.0, one_more p ps one.0 more.0 one.1 more.1, each_append Alts one.0 more.0 ys zs one.2 more.2)

    pub becomes_there : (ps qs ss : Alternatives) → Each Alts ps qs → AllBecome Other qs ss → (rs : Alternatives) × AllBecome Inner ps rs × Each Alts rs ss
    becomes_there = all_there

-- ---- of a grammar

module _ (g : Grammar) (x : Lists) (n m : Numbers) (lists : AreLists g x) (first : AreNumbers g n x) (second : AreNumbers g m x)
    (defined : Clear (IsUndefined g) (names_used g)) where
  own_like : AltsLike So n m (all_rule_alternatives n x.rules) (all_rule_alternatives m x.rules)
  own_like = flat_like n m (rule_alternatives n) (rule_alternatives m) x.rules
      (λ rule w. rule_alike g x n m lists first second defined rule (picked (HasSymbol g) g.rules x.rules rule lists.rules w).0)

  inlined_like : AltsLike So n m (all_rule_alternatives n x.inlined) (all_rule_alternatives m x.inlined)
  inlined_like = flat_like n m (rule_alternatives n) (rule_alternatives m) x.inlined
      (λ rule w. rule_alike g x n m lists first second defined rule (picked (λ (r : NamedRule). IsInlined g r.0) g.rules x.inlined rule lists.inlined w).0)

  repetition_like : (c : Rule) → Contains x.contents c → AltsLike So n m (repetition_alternatives n c) (repetition_alternatives m c)
  repetition_like c w =
      let some : AltsLike So n m (filled (alts n c)) (filled (alts m c)) = filled_like n m (alts n c) (alts m c) (content_alike g x n m lists first second defined c w) in
      each_append (AltLike So n m) (filled (alts n c)) (again (n.repetition c) (filled (alts n c))) (filled (alts m c)) (again (m.repetition c) (filled (alts m c))) some
      (again_like n m (n.repetition c) (m.repetition c) (filled (alts n c)) (filled (alts m c)) (repetition_same g x n m lists first second defined c w) some)

  symbols_alike : AltsLike So n m (symbol_alternatives n x) (symbol_alternatives m x)
  symbols_alike = each_append (AltLike So n m) (all_rule_alternatives n x.rules) (all_repetition_alternatives n x.contents) (all_rule_alternatives m x.rules) (all_repetition_alternatives m x.contents)
      own_like (flat_like n m (repetition_alternatives n) (repetition_alternatives m) x.contents repetition_like)

  pub counted_alike : (all : Alternatives) → IsCounted m x all → (own : Alternatives) × IsCounted n x own × AltsLike So n m own all
  counted_alike all counted = ⊎_elim
      (λ e. (
        all_alternatives n x,
        inl refl,
        subst (λ (zs : Alternatives). AltsLike So n m (all_alternatives n x) zs) (sym e)
            (each_append (AltLike So n m) (all_rule_alternatives n x.inlined) (symbol_alternatives n x) (all_rule_alternatives m x.inlined) (symbol_alternatives m x) inlined_like symbols_alike),
      ))
      (λ b. let r = becomes_there n m (IsInner n x) (IsInner m x) (inner_same n m x (inlined_alike g x n m lists first second defined))
      (λ k xs w. (alts m w.1.1, (w.0, w.1, w.2, w.3, refl))) (λ k ys w. (alts n w.1.1, (w.0, w.1, w.2, w.3, refl)))
      (symbol_alternatives n x) (symbol_alternatives m x) all symbols_alike b in (r.0, inr r.1, r.2))
      counted

module _ (g : Grammar) (n : Numbers) (x : Lists) (defined : Clear (IsUndefined g) (names_used g)) (lists : AreLists g x) (numbers : AreNumbers g n x) where
  counts_too : (all : Alternatives) (c : Counts g all) → (own : Alternatives) × IsCounted n x own × AltsLike So n c.numbers own all
  counts_too all c =
      let same : c.lists ≡ x = one_lists g c.lists x c.are_lists lists in
      counted_alike g x n c.numbers lists numbers (subst (λ (z : Lists). AreNumbers g c.numbers z) same c.are_numbers) defined all
      (subst (λ (z : Lists). IsCounted c.numbers z all) same c.is_counted)

  pub counts_many : HasManyProductions g → CountsMany n x
  counts_many h =
      let r = counts_too h.0 h.1 in
      (r.0, r.1, subst (λ (k : ℕ). most_productions < k) (sym (as_many n h.1.numbers r.0 h.0 r.2)) h.2)

  pub counts_long : HasManySteps g → CountsLong n x
  counts_long h =
      let r = counts_too h.0 h.1 in
      let one = one_as_long n h.1.numbers r.0 h.0 h.2 r.2 h.3 in
      (r.0, r.1, one.0, one.1, subst (λ (k : ℕ). most_steps < k) (sym one.2) h.4)
