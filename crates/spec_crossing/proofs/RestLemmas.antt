-- What is known of all runs of a text, once the graph is followed from where they rest.
use Rattle.std.proofs.Common.{◌≡◌, ◌∙◌, sym, subst, ℕ, ◌≤◌, ◌⊎◌, inl, inr, ⊎_elim, refl, List, Option, Some, None, arith}
use Rattle.spec_trees.specs.declared.tree.Tree.{Tree}
use Rattle.spec_trees.specs.Trees.{bare}
use Rattle.spec_trees.specs.Choice.{Better}
use Rattle.spec_runs.specs.Configurations.{Configuration}
use Rattle.spec_runs.specs.Runs.{IsReached, ComesTooDeep, AcceptsTree}
use Rattle.spec_runs.specs.Outcomes.{SomeAccepts, SomeStopsAt, IsBestTree, IsLastStop}
use Rattle.spec_packing.proofs.RankLemmas.{no_better_chains}
use Rattle.spec_graph.specs.declared.graph.Head.{Head}
use Rattle.spec_graph.specs.declared.graph.Link.{Link}
use Rattle.spec_graph.specs.Laying.{Parsing}
use Rattle.spec_graph.specs.Outcomes.{GraphAccepts, GraphStopsAt}
use Rattle.spec_crossing.specs.Leaving.{EndsBefore}
use Rattle.spec_crossing.specs.Resting.{Withstands, IsPastStuck, AccountsFor, AccountsForGraph}

same_tree : (t u : Tree) → ◌≡◌ {A = Option Tree} (Some t) (Some u) → t ≡ u
same_tree t u e = cc

same_place : (p q : ℕ) → ◌≡◌ {A = Option ℕ} (Some p) (Some q) → p ≡ q
same_place p q e = cc

-- no tree is known that another could be no better than
never_withstands : (best : Option Tree) (u : Tree) → best ≡ None → Withstands best u → ⊥
never_withstands best u none w = let e : ◌≡◌ {A = Option Tree} None (Some w.0) = sym none ∙ w.1 in absurd (let f : ◌≡◌ {A = Option Tree} None (Some w.0) = e in cc)

module _ (P : Parsing) (heads : List Head) (links : List Link) (n : ℕ) (best : Option Tree) (before stuck : Option ℕ) (counts : AccountsForGraph P heads links n best before stuck)
    (Leads : Configuration → Type 0) (done : (d : Configuration) → IsReached P.grammar P.text d → AccountsFor P.grammar P.text None before d ⊎ Leads d) (from : (q : ℕ) → before ≡ Some q → SomeStopsAt P.grammar P.text q)
    (halts : (q : ℕ) → GraphStopsAt P heads q → SomeStopsAt P.grammar P.text q) where
  pub stuck_there : (q : ℕ) → stuck ≡ Some q → SomeStopsAt P.grammar P.text q
  stuck_there q is = ⊎_elim (λ b. from q b) (λ s. halts q s) (counts.stuck_from q is)

  -- ---- where one stack is left

  module _ (none : best ≡ None) where
    widened : (d : Configuration) → AccountsFor P.grammar P.text None before d → AccountsFor P.grammar P.text None stuck d
    widened d cov = record { accepted = cov.accepted; places = λ q s. counts.past q (cov.places q s); shallow = cov.shallow }

    known : (d : Configuration) → EndsBefore P heads links n d → AccountsFor P.grammar P.text None stuck d
    known d e = record {
      accepted = λ u a. let v = e.accepts u a in absurd (never_withstands best v.0 none (counts.accepted v.0 v.1 v.2 v.3));
      places = λ q s. let v = e.stops q s in counts.places q v.0 v.1 v.2;
      shallow = e.shallow;
    }

    pub left_done : (Next : Configuration → Type 0) → ((d : Configuration) → IsReached P.grammar P.text d → Leads d → EndsBefore P heads links n d ⊎ Next d)
        → (d : Configuration) → IsReached P.grammar P.text d → AccountsFor P.grammar P.text None stuck d ⊎ Next d
    left_done Next serves d rd = ⊎_elim (λ cov. inl (widened d cov)) (λ w. ⊎_elim (λ e. inl (known d e)) (λ s. inr s) (serves d rd w)) (done d rd)

  -- ---- the end

  module _ (accepts : (t : Tree) → GraphAccepts P heads links t → SomeAccepts P.grammar P.text t)
      (ends : (d : Configuration) → IsReached P.grammar P.text d → Leads d → EndsBefore P heads links n d) where
    never_deep : (d : Configuration) → IsReached P.grammar P.text d → ComesTooDeep P.grammar P.text d → ⊥
    never_deep d rd deep = ⊎_elim (λ cov. cov.shallow deep) (λ w. (ends d rd w).shallow deep) (done d rd)

    -- a tree that some run accepts is no better than one that is accounted for
    accounted : (d : Configuration) (u : Tree) → IsReached P.grammar P.text d → AcceptsTree P.grammar P.text d u → (b : Tree) × (best ≡ Some b) × (Better u (bare b) → ⊥)
    accounted d u rd a = ⊎_elim (λ cov. absurd (never_withstands None u refl (cov.accepted u a)))
        (λ w.
        let v = (ends d rd w).accepts u a in
        let k = counts.accepted v.0 v.1 v.2 v.3 in
        (k.0, k.1, no_better_chains (bare k.0) v.0 u k.2 v.4))
        (done d rd)

    pub rests_tree : (b : Tree) → best ≡ Some b → IsBestTree P.grammar P.text (bare b)
    rests_tree b is = record {
      shallow = λ w. never_deep w.0 w.1 w.2;
      accepted = accepts (bare b) (counts.tree_from b is);
      best = λ other w.
          let k = accounted w.0 other w.1 w.2 in
          let same : k.0 ≡ b = same_tree k.0 b (sym k.1 ∙ is) in
          subst (λ (x : Tree). Better other (bare x) → ⊥) same k.2;
    }

    pub rests_stop : (q : ℕ) → best ≡ None → stuck ≡ Some q → IsLastStop P.grammar P.text q
    rests_stop q none is = record {
      shallow = λ w. never_deep w.0 w.1 w.2;
      none = λ t w. let k = accounted w.0 t w.1 w.2 in never_withstands best t none k;
      stops = stuck_there q is;
      greatest = λ p w. no_greater p (past p w);
    }
      where
        past : (p : ℕ) → SomeStopsAt P.grammar P.text p → IsPastStuck stuck p
        past p w = ⊎_elim (λ cov. counts.past p (cov.places p w.2)) (λ s. let v = (ends w.0 w.1 s).stops p w.2 in counts.places p v.0 v.1 v.2) (done w.0 w.1)

        no_greater : (p : ℕ) → IsPastStuck stuck p → p ≤ q
        no_greater p k = let same : k.0 ≡ q = same_place k.0 q (sym k.1 ∙ is) in let le = k.2 in omega (arith, same, le)
