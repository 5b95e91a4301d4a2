-- Taking over nodes that stand changes no outcome: it goes on from where the only runs meet.
use Rattle.std.proofs.Common.{◌≡◌, ◌∙◌, sym, ap, refl, subst, ◌<◌, ◌↔◌, drop, Option, Some, None, option_map, unwrap_or, arith}
use Rattle.ts_base.specs.Bytes.{Bytes}
use Rattle.ts_core.specs.declared.flat.FlatGrammar.{FlatGrammar}
use Rattle.spec_tables.specs.Fit.{Fit}
use Rattle.spec_trees.specs.declared.tree.Tree.{Tree}
use Rattle.spec_trees.specs.Trees.{node_extent, bare}
use Rattle.spec_runs.specs.Configurations.{Configuration, starting, stack_symbols, pushed}
use Rattle.spec_runs.specs.Runs.{ComesTooDeep, AcceptsTree, StopsAt}
use Rattle.spec_runs.specs.Outcomes.{FreshOutcome, Fresh}
use Rattle.spec_forced.specs.Forced.{IsForced}
use Rattle.spec_forced.specs.Laws.{ForcedLaws}
use Rattle.spec_forced.specs.OnlyRuns.{Meet}
use Rattle.spec_forced.specs.Leaping.{Leaping, LeapingRun, leaping_here, leaping_step, leaping_on, IsLeftTo, LeapsRightly}
use Rattle.spec_forced.specs.Taking.{Taking, TakingRun, taking_here, taking_step, taking_node, IsMet, FreshTaking, MayTake, TakesRightly}
use Rattle.spec_forced.proofs.ItemLemmas.{same_self}
use Rattle.spec_forced.proofs.SeenLemmas.{agree_self}
use Rattle.spec_forced.proofs.SpanLemmas.{bare_span}
use Rattle.spec_forced.proofs.RunLemmas.{met, from_below, from_pushed, by_alike}
use Rattle.spec_forced.proofs.LeapLemmas.{leaping_outcome}

module _ (g : FlatGrammar) (text : Bytes) (takes : Taking) where
  -- what is taken over is pushed
  abbrev leaps : Leaping
  leaps c = option_map (λ (t : Tree). pushed c (bare t)) (takes c)

  nothing : (c : Configuration) → takes c ≡ None → leaps c ≡ None
  nothing c none = ap (λ (o : Option Tree). option_map (λ (t : Tree). pushed c (bare t)) o) none

  no_tree : (c : Configuration) → leaps c ≡ None → takes c ≡ None
  no_tree c none = by (takes c) refl
    where
      by : (o : Option Tree) → takes c ≡ o → takes c ≡ None
      by None is = is
      by (Some t) is = absurd (let e : Some (pushed c (bare t)) ≡ None = sym (ap (λ (o : Option Tree). option_map (λ (u : Tree). pushed c (bare u)) o) is) ∙ none in cc)

  -- the tree that was taken over where the parser goes on from another configuration
  record WasTaken (c d : Configuration) : Type 0 where
    pub tree : Tree
    pub is : takes c ≡ Some tree
    pub there : pushed c (bare tree) ≡ d

  was_taken : (c d : Configuration) → leaps c ≡ Some d → WasTaken c d
  was_taken c d leapt = by (takes c) refl
    where
      by : (o : Option Tree) → takes c ≡ o → WasTaken c d
      by None is = absurd (let e : ◌≡◌ {A = Option Configuration} None (Some d) = sym (nothing c is) ∙ leapt in cc)
      by (Some t) is =
          let e : ◌≡◌ {A = Option Configuration} (Some (pushed c (bare t))) (Some d) = sym (ap (λ (o : Option Tree). option_map (λ (u : Tree). pushed c (bare u)) o) is) ∙ leapt in
          record { tree = t; is = is; there = ap (λ (o : Option Configuration). unwrap_or o d) e }

  to_leaping : (c e : Configuration) → TakingRun g text takes c e → LeapingRun g text leaps c e
  to_leaping c _ (taking_here _) = leaping_here c
  to_leaping c e (taking_step _ d _ none step rest) = leaping_step c d e (nothing c none) step (to_leaping d e rest)
  to_leaping c e (taking_node _ _ t is rest) =
      leaping_on c (pushed c (bare t)) e (ap (λ (o : Option Tree). option_map (λ (u : Tree). pushed c (bare u)) o) is) (to_leaping (pushed c (bare t)) e rest)

  to_taking : (c e : Configuration) → LeapingRun g text leaps c e → TakingRun g text takes c e
  to_taking c _ (leaping_here _) = taking_here c
  to_taking c e (leaping_step _ d _ none step rest) = taking_step c d e (no_tree c none) step (to_taking d e rest)
  to_taking c e (leaping_on _ d _ leapt rest) =
      let w = was_taken c d leapt in
      taking_node c e w.tree w.is (subst (λ (x : Configuration). TakingRun g text takes x e) (sym w.there) (to_taking d e rest))

  same_end : (e : Configuration) → IsMet g text takes e ↔ IsLeftTo g text leaps e
  same_end e = (
    (λ h. (to_leaping starting e h.0, nothing e h.1)),
    (λ h. (to_taking starting e h.0, no_tree e h.1)),
  )

  module _ (laws : ForcedLaws) (fit : Fit g) (rightly : TakesRightly g text takes) where
    forced_there : (c : Configuration) (t : Tree) → MayTake g text c t → IsForced g (stack_symbols c.stack) (drop c.place text) t (node_extent t)
    forced_there c t m = m.stands (stack_symbols c.stack) (drop c.place text) (same_self g (stack_symbols c.stack)) (agree_self (node_extent t) (drop c.place text))

    meets : (c : Configuration) (t : Tree) → MayTake g text c t → Meet g text c (pushed c (bare t))
    meets c t m =
        let f = forced_there c t m in (
          met laws g text fit c t (node_extent t) f m.valid m.are_valid,
          from_below laws g text fit c t (node_extent t) f m.valid m.are_valid,
          from_pushed laws g text fit c t (node_extent t) f m.valid m.are_valid,
        )

    leaps_rightly : LeapsRightly g text leaps
    leaps_rightly c d reach leapt =
        let w = was_taken c d leapt in
        let m = rightly c w.tree (to_taking starting c reach) w.is in
        subst (λ (x : Configuration). (c.place < x.place) × Meet g text c x) w.there
        ((let q : c.place < (pushed c (bare w.tree)).place = omega (arith, m.some, bare_span laws w.tree) in q), meets c w.tree m)

    abbrev Taken : (Configuration → Type 0) → Type 0
    Taken P = (e : Configuration) × IsMet g text takes e × P e

    abbrev Left : (Configuration → Type 0) → Type 0
    Left P = (e : Configuration) × IsLeftTo g text leaps e × P e

    same_some : (P : Configuration → Type 0) → Taken P ↔ Left P
    same_some P = ((λ w. (w.0, (same_end w.0).0 w.1, w.2)), (λ w. (w.0, (same_end w.0).1 w.1, w.2)))

    pub same_outcome : (o : FreshOutcome) → FreshTaking g text takes o ↔ Fresh g text o
    same_outcome o =
        let h = leaping_outcome g text leaps leaps_rightly o in
        let deep : Configuration → Type 0 = λ e. ComesTooDeep g text e in (
          (λ k. h.0 (by_alike (Taken deep) (Left deep) (λ t. Taken (λ e. AcceptsTree g text e t)) (λ t. Left (λ e. AcceptsTree g text e t)) (λ p. Taken (λ e. StopsAt g text e p)) (λ p. Left (λ e. StopsAt g text e p))
              (same_some deep) (λ t. same_some (λ e. AcceptsTree g text e t)) (λ p. same_some (λ e. StopsAt g text e p)) o k)),
          (λ k. by_alike (Left deep) (Taken deep) (λ t. Left (λ e. AcceptsTree g text e t)) (λ t. Taken (λ e. AcceptsTree g text e t)) (λ p. Left (λ e. StopsAt g text e p)) (λ p. Taken (λ e. StopsAt g text e p))
              ((same_some deep).1, (same_some deep).0) (λ t. let s = same_some (λ e. AcceptsTree g text e t) in (s.1, s.0)) (λ p. let s = same_some (λ e. StopsAt g text e p) in (s.1, s.0)) o (h.1 k)),
        )
