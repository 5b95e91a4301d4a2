-- Where one head is left: at the start, after steps that are the only ones, and at the end.
use Rattle.std.proofs.Common.{◌≡◌, sym, subst, ℕ, ◌≤◌, ◌⊎◌, inl, inr, ⊎_elim, Option, Some, None, arith}
use Rattle.ts_base.specs.Bytes.{Bytes}
use Rattle.ts_core.specs.declared.flat.FlatGrammar.{FlatGrammar}
use Rattle.spec_tables.specs.Fit.{Fit}
use Rattle.spec_trees.specs.declared.tree.Tree.{Tree}
use Rattle.spec_runs.specs.Configurations.{Configuration, starting}
use Rattle.spec_runs.specs.Runs.{Run, run_here, run_on, IsReached, ComesTooDeep, AcceptsTree, StopsAt}
use Rattle.spec_runs.specs.Outcomes.{Fresh, SomeStopsAt, tree_outcome, stuck_outcome}
use Rattle.spec_packing.specs.Packing.{PackedStack, stack_alone, GoesThrough}
use Rattle.spec_crossing.specs.Resting.{IsPastStuck, AccountsFor, PackedRests}
use Rattle.ts_steps.specs.Reparsing.{FreshThrough, LeadThrough}
use Rattle.ts_glr.specs.Laws.{PackingLaws}

run_chain : (g : FlatGrammar) (text : Bytes) (a b c : Configuration) → Run g text a b → Run g text b c → Run g text a c
run_chain g text a _ c (run_here _) s = s
run_chain g text a b c (run_on _ d _ first rest) s = run_on a d c first (run_chain g text d b c rest s)

module _ (packing : PackingLaws) (g : FlatGrammar) (fit : Fit g) (text : Bytes) where
  pub rests_start : (stuck : Option ℕ) → ((q : ℕ) → stuck ≡ Some q → SomeStopsAt g text q) → PackedRests g text stuck (stack_alone starting)
  rests_start stuck known =
      let own = packing.own g fit text starting (run_here starting) in
      record {
        met = own.0;
        done = λ d r. inr (record { from = starting; reached = run_here starting; stands = own.1; run = r });
        stuck_from = known;
      }

  -- all runs through what the old layers stand for go through what the new ones stand for, or do not end
  pub rests_on : (stuck : Option ℕ) (old new : PackedStack) → LeadThrough g text old new → PackedRests g text stuck old → PackedRests g text stuck new
  rests_on stuck old new leads r = record {
    met = leads.met;
    done = λ d reached. ⊎_elim (λ cov. inl cov)
        (λ w. ⊎_elim (λ no. inl (record { accepted = λ u a. absurd (no.unaccepted u a); places = λ q stop. absurd (no.unstuck q stop); shallow = no.shallow })) (λ on. inr on) (leads.on d w)) (r.done d reached);
    stuck_from = r.stuck_from;
  }

  -- ---- the end

  reached_through : (k : PackedStack) (d : Configuration) → GoesThrough g text k d → IsReached g text d
  reached_through k d w = run_chain g text starting w.from d w.reached w.run

  module _ (stuck : Option ℕ) (k : PackedStack) (r : PackedRests g text stuck k) where
    shallow_all : (((d : Configuration) × GoesThrough g text k d × ComesTooDeep g text d) → ⊥) → (d : Configuration) → IsReached g text d → ComesTooDeep g text d → ⊥
    shallow_all none d reached deep = ⊎_elim (λ cov. cov.shallow deep) (λ w. none (d, w, deep)) (r.done d reached)

    not_known : (d : Configuration) (u : Tree) → AccountsFor g text None stuck d → AcceptsTree g text d u → ⊥
    not_known d u cov a = let w = cov.accepted u a in let e : ◌≡◌ {A = Option Tree} None (Some w.0) = w.1 in cc

    -- the best tree of the runs that go through the layers is that of the text
    pub rests_tree : (u : Tree) → FreshThrough g text k (tree_outcome u) → Fresh g text (tree_outcome u)
    rests_tree u o = record {
      shallow = λ w. shallow_all o.shallow w.0 w.1 w.2;
      accepted = (o.accepted.0, reached_through k o.accepted.0 o.accepted.1, o.accepted.2);
      best = λ x w better. ⊎_elim (λ cov. not_known w.0 x cov w.2) (λ through. o.best x (w.0, through, w.2) better) (r.done w.0 w.1);
    }

    -- the greatest of both places is that of the text
    pub rests_stuck : (place q : ℕ) → FreshThrough g text k (stuck_outcome place) → place ≤ q → ((p : ℕ) → IsPastStuck stuck p → p ≤ q) → (q ≡ place) ⊎ (stuck ≡ Some q) → Fresh g text (stuck_outcome q)
    rests_stuck place q o mine past from = record {
      shallow = λ w. shallow_all o.shallow w.0 w.1 w.2;
      none = λ u w. ⊎_elim (λ cov. not_known w.0 u cov w.2) (λ through. o.none u (w.0, through, w.2)) (r.done w.0 w.1);
      stops = ⊎_elim (λ is. (o.stops.0, reached_through k o.stops.0 o.stops.1, subst (λ (p : ℕ). StopsAt g text o.stops.0 p) (sym is) o.stops.2)) (λ is. r.stuck_from q is) from;
      greatest = λ p w. ⊎_elim (λ cov. past p (cov.places p w.2)) (λ through. let le = o.greatest p (w.0, through, w.2) in omega (arith, le, mine)) (r.done w.0 w.1);
    }
