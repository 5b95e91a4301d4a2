-- Alternatives that are alike become alike by inlining, and so give the same productions.
use Rattle.std.proofs.Common.{◌≡◌, ◌∙◌, sym, ap, subst, refl, arith, ℕ, ℤ, ◌+◌, true, List, [], ◌∷◌, ◌++◌, map, slice_get, Option, Some, None, All}
use Rattle.std.proofs.lemmas.List.Elements.{All-head, All-tail}
use Rattle.ts_core.specs.declared.flat.Alias.{Alias}
use Rattle.ts_core.specs.declared.flat.Production.{Production}
use Rattle.ts_core.specs.declared.flat.Step.{Step}
use Rattle.ts_core.specs.declared.rule.Rule.{Rule}
use Rattle.ts_rules.specs.declared.tree.Alternative.{Alternative}
use Rattle.ts_rules.specs.declared.tree.NumberedStep.{NumberedStep}
use Rattle.ts_rules.specs.Alternatives.{Alternatives, alternative, stronger, inner_assoc, step_at}
use Rattle.ts_rules.specs.FirstSights.{Each, end, both, AreFirstSights}
use Rattle.ts_rules.specs.Numbers.{Numbers, Lists, alts, first_inlined, outermost}
use Rattle.ts_rules.specs.Productions.{or_else, prec_or, marked_by, ended_by, inserted, replaced_by, IsInner, Stays, Becomes, stays, replaced, AllBecome, none_left, one_more, alias_of, flat_step, production, AreProductions, unless_blank, filled, again, AreRepeated}
use Rattle.ts_rules.specs.Sights.{NamedRule}
use Rattle.ts_form.proofs.ListLemmas.{one_sights}
use Rattle.ts_form.proofs.LikeLemmas.{StepLike, AltLike, AltsLike, each_append, each_map}

-- it is so
abbrev pub So : Type 0
So = true ≡ true

-- ---- inserted steps

abbrev put_marked : Step → Step → Step
put_marked outer s = record s { alias = or_else outer.alias s.alias; field = or_else outer.field s.field }

abbrev put_ended : Step → Step → Step
put_ended outer s = record s { prec = prec_or s.prec outer.prec; assoc = inner_assoc s.assoc outer.assoc }

alias_or : (n : Numbers) (a b : Option ℕ) → alias_of n (or_else a b) ≡ or_else (alias_of n a) (alias_of n b)
alias_or n None b = refl
alias_or n (Some k) b = refl

flat_marked : (n : Numbers) (s t : NumberedStep) → flat_step n (marked_by s t) ≡ put_marked (flat_step n s) (flat_step n t)
flat_marked n s t = ap (λ (a : Option Alias). record (flat_step n (marked_by s t)) { alias = a }) (alias_or n s.alias t.alias)

module _ (n m : Numbers) where
  abbrev Steps : NumberedStep → NumberedStep → Type 0
  Steps = StepLike So n m

  abbrev Alts : Alternative → Alternative → Type 0
  Alts = AltLike So n m

  marked_like : (s t u v : NumberedStep) → Steps s t → Steps u v → Steps (marked_by s u) (marked_by t v)
  marked_like s t u v h k so =
      flat_marked n s u ∙ ap (λ (x : Step). put_marked x (flat_step n u)) (h so) ∙ ap (put_marked (flat_step m t)) (k so) ∙ sym (flat_marked m t v)

  ended_like : (s t u v : NumberedStep) → Steps s t → Steps u v → Steps (ended_by s u) (ended_by t v)
  ended_like s t u v h k so = ap (λ (x : Step). put_ended x (flat_step n u)) (h so) ∙ ap (put_ended (flat_step m t)) (k so)

  inserted_like : (s t : NumberedStep) (us vs : List NumberedStep) → Steps s t → Each Steps us vs → Each Steps (inserted s us) (inserted t vs)
  inserted_like s t _ _ h end = end
  inserted_like s t _ _ h (both u v _ _ k end) =
      both (ended_by s (marked_by s u)) (ended_by t (marked_by t v)) [] [] (ended_like s t (marked_by s u) (marked_by t v) h (marked_like s t u v h k)) end
  inserted_like s t _ _ h (both u v _ _ k (both w z us vs j rest)) =
      both (marked_by s u) (marked_by t v) (inserted s (w ∷ us)) (inserted t (z ∷ vs)) (marked_like s t u v h k) (inserted_like s t (w ∷ us) (z ∷ vs) h (both w z us vs j rest))

  pub replaced_like : (d e : ℤ) (cs ds : List NumberedStep) (s t : NumberedStep) (us vs : List NumberedStep) (x y : Alternative)
      → (So → d ≡ e) → Each Steps cs ds → Steps s t → Each Steps us vs → Alts x y → Alts (replaced_by d cs s us x) (replaced_by e ds t vs y)
  replaced_like d e cs ds s t us vs x y same before step after h = record {
    dynamic = λ so. ap (λ (z : ℤ). stronger z x.dynamic) (same so) ∙ ap (stronger e) (h.dynamic so);
    steps = each_append Steps (cs ++ inserted s x.steps) us (ds ++ inserted t y.steps) vs
        (each_append Steps cs (inserted s x.steps) ds (inserted t y.steps) before (inserted_like s t x.steps y.steps step h.steps)) after;
  }

  pub symbols_like : (s t : NumberedStep) → Steps s t → s.symbol ≡ t.symbol
  symbols_like s t h = ap (λ (x : Step). x.symbol.0) (h refl)

  -- ---- productions

  steps_flat : (ss ts : List NumberedStep) → Each Steps ss ts → map (flat_step n) ss ≡ map (flat_step m) ts
  steps_flat _ _ end = refl
  steps_flat _ _ (both s t ss ts h rest) =
      ap (λ (x : Step). x ∷ map (flat_step n) ss) (h refl) ∙ ap (λ (xs : List Step). flat_step m t ∷ xs) (steps_flat ss ts rest)

  abbrev made : ℤ → List Step → Production
  made d steps = record { dynamic = d; steps = steps }

  productions_same : (ps qs : Alternatives) → Each Alts ps qs → map (production n) ps ≡ map (production m) qs
  productions_same _ _ end = refl
  productions_same _ _ (both p q ps qs h rest) =
      ap (λ (d : ℤ). made d (map (flat_step n) p.steps) ∷ map (production n) ps) (h.dynamic refl)
      ∙ ap (λ (xs : List Step). made q.dynamic xs ∷ map (production n) ps) (steps_flat p.steps q.steps h.steps)
      ∙ ap (λ (xs : List Production). production m q ∷ xs) (productions_same ps qs rest)

  -- ---- repetitions

  pub filled_like : (ps qs : Alternatives) → Each Alts ps qs → Each Alts (filled ps) (filled qs)
  filled_like _ _ end = end
  filled_like _ _ (both p q ps qs h rest) =
      each_append Alts (unless_blank p p.steps) (filled ps) (unless_blank q q.steps) (filled qs) (unless p.steps q.steps h.steps) (filled_like ps qs rest)
    where
      unless : (ss ts : List NumberedStep) → Each Steps ss ts → Each Alts (unless_blank p ss) (unless_blank q ts)
      unless _ _ end = end
      unless _ _ (both s t ss ts k more) = both p q [] [] h end

  pub again_like : (k l : ℕ) (ps qs : Alternatives) → k ≡ l → Each Alts ps qs → Each Alts (again k ps) (again l qs)
  again_like k l ps qs e all =
      each_map Alts Alts (λ (p : Alternative). alternative p.dynamic (step_at k outermost ∷ p.steps)) (λ (p : Alternative). alternative p.dynamic (step_at l outermost ∷ p.steps))
      (λ p q h. record { dynamic = h.dynamic; steps = both (step_at k outermost) (step_at l outermost) p.steps q.steps (λ so. ap (λ (j : ℕ). flat_step m (step_at j outermost)) e) h.steps })
      ps qs all

  -- ---- inlining

  module _ (Inner Other : ℕ → Alternatives → Type 0)
      (same : (k : ℕ) (xs ys : Alternatives) → Inner k xs → Other k ys → Each Alts xs ys)
      (onward : (k : ℕ) (xs : Alternatives) → Inner k xs → (ys : Alternatives) × Other k ys)
      (back : (k : ℕ) (ys : Alternatives) → Other k ys → (xs : Alternatives) × Inner k xs) where
    -- a step that stays beside one that is replaced
    apart_left : (s t : NumberedStep) (ys : Alternatives) → Steps s t → Stays Inner s → Other t.symbol ys → ⊥
    apart_left s t ys h stay is = let w = back t.symbol ys is in stay w.0 (subst (λ (k : ℕ). Inner k w.0) (sym (symbols_like s t h)) w.1)

    apart_right : (s t : NumberedStep) (xs : Alternatives) → Steps s t → Inner s.symbol xs → Stays Other t → ⊥
    apart_right s t xs h is stay = let w = onward s.symbol xs is in stay w.0 (subst (λ (k : ℕ). Other k w.0) (symbols_like s t h) w.1)

    part_left : (ds cs : List NumberedStep) (t : NumberedStep) (vs : List NumberedStep) (ys : Alternatives) → Each Steps ds (cs ++ t ∷ vs) → All (Stays Inner) ds → Other t.symbol ys → ⊥
    part_left _ [] t vs ys (both s _ ss _ h rest) stay is = apart_left s t ys h (All-head (Stays Inner) s ss stay) is
    part_left _ (c ∷ cs) t vs ys (both s _ ss _ h rest) stay is = part_left ss cs t vs ys rest (All-tail (Stays Inner) s ss stay) is

    part_right : (cs ds : List NumberedStep) (s : NumberedStep) (us : List NumberedStep) (xs : Alternatives) → Each Steps (cs ++ s ∷ us) ds → All (Stays Other) ds → Inner s.symbol xs → ⊥
    part_right [] _ s us xs (both _ t _ ts h rest) stay is = apart_right s t xs h is (All-head (Stays Other) t ts stay)
    part_right (c ∷ cs) _ s us xs (both _ t _ ts h rest) stay is = part_right cs ts s us xs rest (All-tail (Stays Other) t ts stay) is

    -- the first replaced steps of both are the same place
    record Met (cs ds : List NumberedStep) (s t : NumberedStep) (us vs : List NumberedStep) : Type 0 where
      before : Each Steps cs ds
      step : Steps s t
      after : Each Steps us vs

    meet : (cs ds : List NumberedStep) (s t : NumberedStep) (us vs : List NumberedStep) (xs ys : Alternatives) → Each Steps (cs ++ s ∷ us) (ds ++ t ∷ vs)
        → All (Stays Inner) cs → All (Stays Other) ds → Inner s.symbol xs → Other t.symbol ys → Met cs ds s t us vs
    meet [] [] s t us vs xs ys (both _ _ _ _ h rest) a b is too = record { before = end; step = h; after = rest }
    meet [] (d ∷ ds) s t us vs xs ys (both _ _ _ _ h rest) a b is too = absurd (apart_right s d xs h is (All-head (Stays Other) d ds b))
    meet (c ∷ cs) [] s t us vs xs ys (both _ _ _ _ h rest) a b is too = absurd (apart_left c t ys h (All-head (Stays Inner) c cs a) too)
    meet (c ∷ cs) (d ∷ ds) s t us vs xs ys (both _ _ _ _ h rest) a b is too =
        let r = meet cs ds s t us vs xs ys rest (All-tail (Stays Inner) c cs a) (All-tail (Stays Other) d ds b) is too in
        record { before = both c d cs ds h r.before; step = r.step; after = r.after }

    mutual
      become_like : (p q : Alternative) (ps qs : Alternatives) → Alts p q → Becomes Inner p ps → Becomes Other q qs → Each Alts ps qs
      become_like _ _ _ _ h (stays p a) (stays q b) = both p q [] [] h end
      become_like _ _ _ _ h (stays p a) (replaced e ds t vs ys more stay_too too becomes) = absurd (part_left p.steps ds t vs ys h.steps a too)
      become_like _ _ _ _ h (replaced d cs s us xs all stay is become) (stays q b) = absurd (part_right cs q.steps s us xs h.steps b is)
      become_like _ _ _ _ h (replaced d cs s us xs all stay is become) (replaced e ds t vs ys more stay_too too becomes) =
          let met = meet cs ds s t us vs xs ys h.steps stay stay_too is too in
          all_become (map (replaced_by d cs s us) xs) (map (replaced_by e ds t vs) ys) all more
          (each_map Alts Alts (replaced_by d cs s us) (replaced_by e ds t vs) (λ x y k. replaced_like d e cs ds s t us vs x y h.dynamic met.before met.step met.after k) xs ys
          (same t.symbol xs ys (subst (λ (k : ℕ). Inner k xs) (symbols_like s t met.step) is) too))
          become becomes

      all_become : (ps qs rs ss : Alternatives) → Each Alts ps qs → AllBecome Inner ps rs → AllBecome Other qs ss → Each Alts rs ss
      all_become _ _ _ _ end none_left none_left = end
      all_become _ _ _ _ (both p q ps qs h rest) (one_more a as_left xs rs one more) (one_more b bs ys ss two others) =
          each_append Alts xs rs ys ss (become_like p q xs ys h one two) (all_become ps qs rs ss rest more others)

    pub all_alike : (ps qs rs ss : Alternatives) → Each Alts ps qs → AllBecome Inner ps rs → AllBecome Other qs ss → Each Alts rs ss
    all_alike = all_become

-- ---- productions of the same lists

module _ (n m : Numbers) (x : Lists)
    (alike : (k : ℕ) (rule : NamedRule) → slice_get x.inlined k ≡ Some rule → AltsLike So n m (alts n rule.1) (alts m rule.1)) where
  pub inner_same : (k : ℕ) (xs ys : Alternatives) → IsInner n x k xs → IsInner m x k ys → AltsLike So n m xs ys
  inner_same k xs ys w v = by w.0 v.0 w.1 v.1 w.2 v.2 w.3 v.3 w.4 v.4
    where
      by : (i j : ℕ) (r q : NamedRule) → slice_get x.inlined i ≡ Some r → slice_get x.inlined j ≡ Some q → k ≡ first_inlined x + i → k ≡ first_inlined x + j
          → xs ≡ alts n r.1 → ys ≡ alts m q.1 → AltsLike So n m xs ys
      by i j r q at at_too e f is is_too =
          let place : j ≡ i = omega (arith, e, f) in
          let g : Some q ≡ Some r = sym at_too ∙ ap (slice_get x.inlined) place ∙ at in
          let rule : q ≡ r = cc in
          subst (λ (zs : Alternatives). AltsLike So n m zs ys) (sym is)
          (subst (λ (zs : Alternatives). AltsLike So n m (alts n r.1) zs) (sym (is_too ∙ ap (λ (z : NamedRule). alts m z.1) rule)) (alike i r at))

  pub same_productions : (from other : Alternatives) (found more : List Production) → AltsLike So n m from other → AreProductions n x from found → AreProductions m x other more → found ≡ more
  same_productions from other found more h a b =
      let all : AltsLike So n m a.all b.all
      = all_alike n m (IsInner n x) (IsInner m x) inner_same (λ k xs w. (alts m w.1.1, (w.0, w.1, w.2, w.3, refl))) (λ k ys w. (alts n w.1.1, (w.0, w.1, w.2, w.3, refl)))
      from other a.all b.all h a.become b.become in
      one_sights (map (production n) a.all) found more a.firsts
      (subst (λ (ps : List Production). AreFirstSights ps more) (sym (productions_same n m a.all b.all all)) b.firsts)

  pub same_repeated : (content : Rule) (found more : List Production) → AltsLike So n m (alts n content) (alts m content) → n.repetition content ≡ m.repetition content
      → AreRepeated n x content found → AreRepeated m x content more → found ≡ more
  same_repeated content found more h e a b =
      let some : AltsLike So n m (filled (alts n content)) (filled (alts m content)) = filled_like n m (alts n content) (alts m content) h in
      let once : a.once ≡ b.once = same_productions (filled (alts n content)) (filled (alts m content)) a.once b.once some a.are_once b.are_once in
      let twice : a.more ≡ b.more
      = same_productions (again (n.repetition content) (filled (alts n content))) (again (m.repetition content) (filled (alts m content))) a.more b.more
      (again_like n m (n.repetition content) (m.repetition content) (filled (alts n content)) (filled (alts m content)) e some) a.are_more b.are_more in
      a.is ∙ ap (λ (ps : List Production). ps ++ a.more) once ∙ ap (λ (ps : List Production). b.once ++ ps) twice ∙ sym b.is
