-- What alternatives become by inlining is one list, and so their productions are.
use Rattle.std.proofs.Common.{◌≡◌, ◌∙◌, sym, ap, subst, refl, arith, ℕ, ℤ, ◌+◌, List, [], ◌∷◌, ◌++◌, map, slice_get, Some, All}
use Rattle.std.specs.List.{Contains}
use Rattle.std.proofs.lemmas.List.Elements.{All-head, All-tail, All-contains, Contains-append_right}
use Rattle.ts_core.specs.declared.flat.Production.{Production}
use Rattle.ts_rules.specs.declared.tree.Alternative.{Alternative}
use Rattle.ts_rules.specs.declared.tree.NumberedStep.{NumberedStep}
use Rattle.ts_rules.specs.Alternatives.{Alternatives}
use Rattle.ts_rules.specs.FirstSights.{AreFirstSights}
use Rattle.ts_rules.specs.Numbers.{Numbers, Lists, alts, first_inlined}
use Rattle.ts_rules.specs.Productions.{replaced_by, IsInner, Stays, Becomes, stays, replaced, AllBecome, none_left, one_more, production, AreProductions}
use Rattle.ts_rules.specs.Sights.{NamedRule}
use Rattle.ts_normalise.proofs.ListLemmas.{head_in, one_sights}

module _ (Inner : ℕ → Alternatives → Type 0) (one_inner : (k : ℕ) (xs ys : Alternatives) → Inner k xs → Inner k ys → xs ≡ ys) where
  -- a step that is replaced does not stay
  apart : (steps before : List NumberedStep) (t : NumberedStep) (after : List NumberedStep) (xs : Alternatives) → steps ≡ before ++ t ∷ after → All (Stays Inner) steps → Inner t.symbol xs → ⊥
  apart steps before t after xs e stay is =
      All-contains (Stays Inner) steps t stay (subst (λ (ss : List NumberedStep). Contains ss t) (sym e) (Contains-append_right before (t ∷ after) t (head_in t after))) xs is

  -- the first steps that are replaced are the same place
  record Met (before other : List NumberedStep) (s t : NumberedStep) (after rest : List NumberedStep) : Type 0 where
    before_same : before ≡ other
    step_same : s ≡ t
    after_same : after ≡ rest

  meet : (cs ds : List NumberedStep) (s t : NumberedStep) (us vs : List NumberedStep) (xs ys : Alternatives) → cs ++ s ∷ us ≡ ds ++ t ∷ vs
      → All (Stays Inner) cs → All (Stays Inner) ds → Inner s.symbol xs → Inner t.symbol ys → Met cs ds s t us vs
  meet [] [] s t us vs xs ys e a b is too =
      let f : s ∷ us ≡ t ∷ vs = e in
      record { before_same = refl; step_same = cc; after_same = cc }
  meet [] (d ∷ ds) s t us vs xs ys e a b is too =
      let f : s ∷ us ≡ d ∷ (ds ++ t ∷ vs) = e in
      let same : s ≡ d = cc in
      absurd (All-head (Stays Inner) d ds b xs (subst (λ (z : NumberedStep). Inner z.symbol xs) same is))
  meet (c ∷ cs) [] s t us vs xs ys e a b is too =
      let f : c ∷ (cs ++ s ∷ us) ≡ t ∷ vs = e in
      let same : t ≡ c = cc in
      absurd (All-head (Stays Inner) c cs a ys (subst (λ (z : NumberedStep). Inner z.symbol ys) same too))
  meet (c ∷ cs) (d ∷ ds) s t us vs xs ys e a b is too =
      let f : c ∷ (cs ++ s ∷ us) ≡ d ∷ (ds ++ t ∷ vs) = e in
      let head : c ≡ d = cc in
      let rest : cs ++ s ∷ us ≡ ds ++ t ∷ vs = cc in
      let met = meet cs ds s t us vs xs ys rest (All-tail (Stays Inner) c cs a) (All-tail (Stays Inner) d ds b) is too in
      let tail : cs ≡ ds = met.before_same in
      record { before_same = cc; step_same = met.step_same; after_same = met.after_same }

  mutual
    become_one : (p q : Alternative) (ps qs : Alternatives) → p ≡ q → Becomes Inner p ps → Becomes Inner q qs → ps ≡ qs
    become_one _ _ _ _ e (stays p a) (stays q b) = ap (λ (z : Alternative). z ∷ []) e
    become_one _ _ _ _ e (stays p a) (replaced d ds t vs ys more stay_too too becomes) =
        absurd (apart p.steps ds t vs ys (ap (λ (z : Alternative). z.steps) e) a too)
    become_one _ _ _ _ e (replaced d cs s us xs all stay is become) (stays q b) =
        absurd (apart q.steps cs s us xs (ap (λ (z : Alternative). z.steps) (sym e)) b is)
    become_one _ _ _ _ e (replaced d cs s us xs all stay is become) (replaced f ds t vs ys more stay_too too becomes) =
        let dynamic : d ≡ f = ap (λ (z : Alternative). z.dynamic) e in
        let steps : cs ++ s ∷ us ≡ ds ++ t ∷ vs = ap (λ (z : Alternative). z.steps) e in
        let met = meet cs ds s t us vs xs ys steps stay stay_too is too in
        let inner : xs ≡ ys = one_inner t.symbol xs ys (subst (λ (z : NumberedStep). Inner z.symbol xs) met.step_same is) too in
        let same : map (replaced_by d cs s us) xs ≡ map (replaced_by f ds t vs) ys
        = ap (λ (z : ℤ). map (replaced_by z cs s us) xs) dynamic
        ∙ ap (λ (z : List NumberedStep). map (replaced_by f z s us) xs) met.before_same
        ∙ ap (λ (z : NumberedStep). map (replaced_by f ds z us) xs) met.step_same
        ∙ ap (λ (z : List NumberedStep). map (replaced_by f ds t z) xs) met.after_same
        ∙ ap (map (replaced_by f ds t vs)) inner in
        all_one (map (replaced_by d cs s us) xs) (map (replaced_by f ds t vs) ys) all more same become becomes

    all_one : (ps qs rs ss : Alternatives) → ps ≡ qs → AllBecome Inner ps rs → AllBecome Inner qs ss → rs ≡ ss
    all_one _ _ _ _ e none_left none_left = refl
    all_one _ _ _ _ e none_left (one_more q qs ys ss two others) = absurd (let f : [] ≡ q ∷ qs = e in cc)
    all_one _ _ _ _ e (one_more p ps xs rs one more) none_left = absurd (let f : p ∷ ps ≡ [] = e in cc)
    all_one _ _ _ _ e (one_more p ps xs rs one more) (one_more q qs ys ss two others) =
        let f : p ∷ ps ≡ q ∷ qs = e in
        let head : p ≡ q = cc in
        let tail : ps ≡ qs = cc in
        ap (λ (zs : Alternatives). zs ++ rs) (become_one p q xs ys head one two) ∙ ap (λ (zs : Alternatives). ys ++ zs) (all_one ps qs rs ss tail more others)

  pub all_become_one : (ps rs ss : Alternatives) → AllBecome Inner ps rs → AllBecome Inner ps ss → rs ≡ ss
  all_become_one ps rs ss one two = all_one ps ps rs ss refl one two

-- ---- productions

module _ (n : Numbers) (x : Lists) where
  inner_one : (k : ℕ) (xs ys : Alternatives) → IsInner n x k xs → IsInner n x k ys → xs ≡ ys
  inner_one k xs ys w v = by w.0 v.0 w.1 v.1 w.2 v.2 w.3 v.3 w.4 v.4
    where
      by : (i j : ℕ) (r q : NamedRule) → slice_get x.inlined i ≡ Some r → slice_get x.inlined j ≡ Some q → k ≡ first_inlined x + i → k ≡ first_inlined x + j
          → xs ≡ alts n r.1 → ys ≡ alts n q.1 → xs ≡ ys
      by i j r q at at_too e f is is_too =
          let place : i ≡ j = omega (arith, e, f) in
          let g : Some r ≡ Some q = sym at ∙ ap (slice_get x.inlined) place ∙ at_too in
          let rule : r ≡ q = cc in
          is ∙ ap (λ (z : NamedRule). alts n z.1) rule ∙ sym is_too

  pub one_productions : (from : Alternatives) (found more : List Production) → AreProductions n x from found → AreProductions n x from more → found ≡ more
  one_productions from found more a b =
      let all : b.all ≡ a.all = all_become_one (IsInner n x) inner_one from b.all a.all b.become a.become in
      one_sights (map (production n) a.all) found more a.firsts (subst (λ (ps : Alternatives). AreFirstSights (map (production n) ps) more) all b.firsts)
