-- Going on from where the only runs meet changes no outcome.
use Rattle.std.proofs.Common.{◌≡◌, refl, ℕ, zero, suc, ◌+◌, ◌<◌, ◌≤◌, ⊎_elim, ◌↔◌, Option, Some, None, arith}
use Rattle.ts_base.specs.Bytes.{Bytes}
use Rattle.ts_core.specs.declared.flat.FlatGrammar.{FlatGrammar}
use Rattle.spec_trees.specs.declared.tree.Tree.{Tree}
use Rattle.spec_runs.specs.Configurations.{Configuration, starting}
use Rattle.spec_runs.specs.Runs.{StepsOn, shift_token, pass_extra, reduce_trees, Run, run_here, run_on, ComesTooDeep, AcceptsTree, StopsAt}
use Rattle.spec_runs.specs.Outcomes.{FreshOutcome, Fresh}
use Rattle.spec_forced.specs.OnlyRuns.{IsOnlyStep, OnlyRun, only_here, only_on, Meet, GoesTooDeep, GoesToTree, GoesToStop, EndAlike}
use Rattle.spec_forced.specs.Leaping.{Leaping, LeapingRun, leaping_here, leaping_step, leaping_on, IsLeftTo, FreshLeaping, LeapsRightly}
use Rattle.spec_forced.proofs.OnlyLemmas.{only_runs, goes_through, meet_alike}
use Rattle.spec_forced.proofs.RunLemmas.{by_alike, fresh_start}

module _ (g : FlatGrammar) (text : Bytes) where
  run_chain : (c d e : Configuration) → Run g text c d → Run g text d e → Run g text c e
  run_chain _ d e (run_here _) r = r
  run_chain c d e (run_on _ x _ step more) r = run_on c x e step (run_chain x d e more r)

  place_rises : (c d : Configuration) → StepsOn g text c d → c.place ≤ d.place
  place_rises c _ (shift_token s pad size next act) = omega arith
  place_rises c _ (pass_extra s pad size next extra idle) = omega arith
  place_rises c _ (reduce_trees number node after move r shallow) = omega arith

  -- no run goes on from there without a choice
  abbrev Ends : Configuration → Type 0
  Ends e = (x : Configuration) → IsOnlyStep g text e x → ⊥

  -- from the other configuration on
  past_leap : (c d e : Configuration) → Ends e → Meet g text c d → Run g text c e → Run g text d e
  past_leap c d e ends (m, below, over) run =
      ⊎_elim
      (λ more. run_chain d m e (only_runs g text d m over) more)
      (λ back. by e m ends back over)
      (goes_through g text c m e below run)
    where
      by : (x m : Configuration) → Ends x → OnlyRun g text x m → OnlyRun g text d m → Run g text d x
      by _ _ ends (only_here x) over = only_runs g text d x over
      by x _ free (only_on _ y _ s r) over = absurd (free y s)

  module _ (leaps : Leaping) where
    leaping_chain : (c d e : Configuration) → LeapingRun g text leaps c d → LeapingRun g text leaps d e → LeapingRun g text leaps c e
    leaping_chain _ d e (leaping_here _) r = r
    leaping_chain c d e (leaping_step _ x _ none step more) r = leaping_step c x e none step (leaping_chain x d e more r)
    leaping_chain c d e (leaping_on _ x _ is more) r = leaping_on c x e is (leaping_chain x d e more r)

    -- what a run comes to without leaps, it comes to with them
    abbrev Found : Configuration → Configuration → Type 0
    Found c e = LeapingRun g text leaps c e × (leaps e ≡ None)

    module _ (rightly : LeapsRightly g text leaps) where
      -- one leap, where it is so from any place behind
      leapt : (b : ℕ) → ((c e : Configuration) → e.place < b + c.place → Ends e → LeapingRun g text leaps starting c → Run g text c e → Found c e) → (c e d : Configuration) → leaps c ≡ Some d → e.place < suc b + c.place → Ends e → LeapingRun g text leaps starting c → Run g text c e
          → Found c e
      leapt b more c e d is low ends reach r =
          let m = rightly c d reach is in
          let there : LeapingRun g text leaps starting d = leaping_chain starting c d reach (leaping_on c d d is (leaping_here d)) in
          let found = more d e (omega (arith, low, m.0)) ends there (past_leap c d e ends m.1 r) in
          (leaping_on c d e is found.0, found.1)

      inner : (b : ℕ) → ((c e : Configuration) → e.place < b + c.place → Ends e → LeapingRun g text leaps starting c → Run g text c e → Found c e) → (c e : Configuration) → e.place < suc b + c.place → Ends e → LeapingRun g text leaps starting c → Run g text c e → Found c e
      inner b more c _ low ends reach (run_here _) = by (leaps c) refl
        where
          by : (o : Option Configuration) → leaps c ≡ o → Found c c
          by None none = (leaping_here c, none)
          by (Some d) is = leapt b more c c d is low ends reach (run_here c)
      inner b more c e low ends reach (run_on _ d _ step rest) =
          by (leaps c) refl
          (λ none. inner b more d e (omega (arith, low, place_rises c d step)) ends (leaping_chain starting c d reach (leaping_step c d d none step (leaping_here d))) rest)
        where
          by : (o : Option Configuration) → leaps c ≡ o → (leaps c ≡ None → Found d e) → Found c e
          by None none deep = let h = deep none in (leaping_step c d e none step h.0, h.1)
          by (Some x) is deep = leapt b more c e x is low ends reach (run_on c d e step rest)

      outer : (b : ℕ) (c e : Configuration) → e.place < b + c.place → Ends e → LeapingRun g text leaps starting c → Run g text c e → Found c e
      outer zero c e low ends reach run = let n = rises c e run in absurd (omega (arith, low, n))
        where
          rises : (c e : Configuration) → Run g text c e → c.place ≤ e.place
          rises c _ (run_here _) = omega arith
          rises c e (run_on _ d _ step rest) = omega (arith, place_rises c d step, rises d e rest)
      outer (suc b) c e low ends reach run = inner b (outer b) c e low ends reach run

      found : (e : Configuration) → Ends e → Run g text starting e → Found starting e
      found e ends run = outer (suc e.place) starting e (omega arith) ends (leaping_here starting) run

      -- and the other way round: what it comes to with them, it comes to without
      pub record Back (c e : Configuration) : Type 0 where
        pub deep : GoesTooDeep g text e → GoesTooDeep g text c
        pub tree : (t : Tree) → GoesToTree g text e t → GoesToTree g text c t
        pub stop : (place : ℕ) → GoesToStop g text e place → GoesToStop g text c place

      back : (c e : Configuration) → LeapingRun g text leaps starting c → LeapingRun g text leaps c e → Back c e
      back c _ reach (leaping_here _) = record { deep = λ h. h; tree = λ t h. h; stop = λ p h. h }
      back c e reach (leaping_step _ d _ none step rest) =
          let h = back d e (leaping_chain starting c d reach (leaping_step c d d none step (leaping_here d))) rest in
          record {
            deep = λ k. let x = h.deep k in (x.0, run_on c d x.0 step x.1, x.2);
            tree = λ t k. let x = h.tree t k in (x.0, run_on c d x.0 step x.1, x.2);
            stop = λ p k. let x = h.stop p k in (x.0, run_on c d x.0 step x.1, x.2);
          }
      back c e reach (leaping_on _ d _ is rest) =
          let a : EndAlike g text c d = meet_alike g text c d (rightly c d reach is).1 in
          let h = back d e (leaping_chain starting c d reach (leaping_on c d d is (leaping_here d))) rest in
          record {
            deep = λ k. a.deep.1 (h.deep k);
            tree = λ u k. (a.tree u).1 (h.tree u k);
            stop = λ q k. (a.stop q).1 (h.stop q k);
          }

      -- ---- the outcome

      abbrev SomeDeep : Type 0
      SomeDeep = (e : Configuration) × IsLeftTo g text leaps e × ComesTooDeep g text e

      abbrev SomeTree : Tree → Type 0
      SomeTree t = (e : Configuration) × IsLeftTo g text leaps e × AcceptsTree g text e t

      abbrev SomeStop : ℕ → Type 0
      SomeStop place = (e : Configuration) × IsLeftTo g text leaps e × StopsAt g text e place

      deep_same : SomeDeep ↔ GoesTooDeep g text starting
      deep_same = (
        (λ w. (back starting w.0 (leaping_here starting) w.1.0).deep (w.0, run_here w.0, w.2)),
        (λ w. (w.0, found w.0 (λ x s. s.shallow w.2) w.1, w.2)),
      )

      tree_same : (t : Tree) → SomeTree t ↔ GoesToTree g text starting t
      tree_same t = (
        (λ w. (back starting w.0 (leaping_here starting) w.1.0).tree t (w.0, run_here w.0, w.2)),
        (λ w. (w.0, found w.0 (λ x s. s.unaccepted t w.2) w.1, w.2)),
      )

      stop_same : (place : ℕ) → SomeStop place ↔ GoesToStop g text starting place
      stop_same place = (
        (λ w. (back starting w.0 (leaping_here starting) w.1.0).stop place (w.0, run_here w.0, w.2)),
        (λ w. (w.0, found w.0 (λ x s. s.unstuck place w.2) w.1, w.2)),
      )

      pub leaping_outcome : (o : FreshOutcome) → FreshLeaping g text leaps o ↔ Fresh g text o
      leaping_outcome o =
          let s = fresh_start g text o in (
            (λ h. s.0 (by_alike SomeDeep (GoesTooDeep g text starting) SomeTree (GoesToTree g text starting) SomeStop (GoesToStop g text starting) deep_same tree_same stop_same o h)),
            (λ h.
                by_alike (GoesTooDeep g text starting) SomeDeep (GoesToTree g text starting) SomeTree (GoesToStop g text starting) SomeStop
                (deep_same.1, deep_same.0) (λ t. ((tree_same t).1, (tree_same t).0)) (λ p. ((stop_same p).1, (stop_same p).0)) o (s.1 h)),
          )
