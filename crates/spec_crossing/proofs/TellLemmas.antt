-- A graph that was followed past the text tells something: a tree is accepted, or a head stops.
use Rattle.std.proofs.Common.{◌≡◌, ◌∙◌, sym, subst, refl, ℕ, ◌<◌, ◌≤◌, ◌⊎◌, inl, inr, List, [], length, drop, Option, Some, None, arith}
use Rattle.ts_base.specs.Bytes.{Bytes}
use Rattle.ts_core.specs.declared.flat.FlatGrammar.{FlatGrammar}
use Rattle.ts_core.specs.declared.symbol.Symbol.{Symbol}
use Rattle.spec_lexing.specs.Lexing.{Found, Lex}
use Rattle.spec_trees.specs.declared.tree.Tree.{Tree}
use Rattle.spec_trees.specs.Made.{filling}
use Rattle.spec_runs.specs.Configurations.{Configuration, NextIs}
use Rattle.spec_runs.specs.Runs.{StepsOn, Run, ComesTooDeep, AcceptsTree, StopsAt}
use Rattle.spec_packing.specs.Packing.{packed_trees}
use Rattle.spec_graph.specs.declared.graph.Head.{Head}
use Rattle.spec_graph.specs.declared.graph.Link.{Link}
use Rattle.spec_graph.specs.States.{AreRanks, at_first}
use Rattle.spec_graph.specs.Laying.{Parsing, Lays}
use Rattle.spec_graph.specs.Grounded.{IsGrounded}
use Rattle.spec_graph.specs.Links.{IsGraph, IsWholeTo}
use Rattle.spec_graph.proofs.ReadingLemmas.{own_reading}
use Rattle.spec_graph.proofs.SightLemmas.{Facts}
use Rattle.spec_graph.proofs.LayLemmas.{IsBase, lays_run, lays_state}
use Rattle.spec_graph.proofs.BaseLemmas.{ground_base, stand_all, within, due_last}
use Rattle.spec_crossing.specs.Leaving.{EndsBefore}
use Rattle.spec_crossing.specs.Resting.{Withstands, IsPastStuck, AccountsForGraph}
use Rattle.spec_crossing.proofs.BeforeLemmas.{EndsEarly}
use Rattle.spec_crossing.proofs.EndLemmas.{ends_early}
use Rattle.spec_crossing.proofs.HaltLemmas.{some_end}

no_tree : (best : Option Tree) (u : Tree) → best ≡ None → Withstands best u → ⊥
no_tree best u none w = let e : ◌≡◌ {A = Option Tree} None (Some w.0) = sym none ∙ w.1 in cc

no_place : (stuck : Option ℕ) (q : ℕ) → stuck ≡ None → IsPastStuck stuck q → ⊥
no_place stuck q none w = let e : ◌≡◌ {A = Option ℕ} None (Some w.0) = sym none ∙ w.1 in cc

module _ (P : Parsing) (facts : Facts P) (ground : IsGrounded P) where
  base : IsBase P
  base = ground_base P facts ground

  -- ---- runs from the own trees of the stack, whatever run came to them

  abbrev first : Configuration
  first = record { stack = packed_trees P.layers; place = P.place }

  first_laid : Lays P [] 0 first.stack first.place (filling first.stack)
  first_laid = subst (λ (m : ℕ). Lays P [] 0 (packed_trees P.layers) m (filling (packed_trees P.layers))) ground.spans
      (stand_all P facts base (packed_trees P.layers) (own_reading P ground.own) [] (packed_trees P.layers) refl)

  laid : (d : Configuration) → Run P.grammar P.text first d → Lays P [] 0 d.stack d.place (filling d.stack) × (P.place ≤ d.place)
  laid d run = lays_run P facts base first d first_laid (omega arith) run

  -- ---- their ends are in the graph

  module _ (rank : ℕ → ℕ) (most : ℕ) (ranked : AreRanks P.grammar rank most) (heads : List Head) (links : List Link) (graph : IsGraph P heads links)
      (n : ℕ) (whole : IsWholeTo P rank heads links (record { look = n; begins = n; rank = most })) (last : length P.text < n) (inside : P.place ≤ length P.text) where
    inside_at : (d : Configuration) → Run P.grammar P.text first d → d.place ≤ length P.text
    inside_at d run = within P facts base [] 0 d.stack d.place (filling d.stack) (omega arith) inside (laid d run).0

    early : (d : Configuration) → Run P.grammar P.text first d → EndsEarly P facts base rank most ranked n d
    early d run =
        let le = inside_at d run in
        let l = laid d run in
        record {
          early = omega (arith, le, last);
          before = due_last P facts base rank (record { look = n; begins = n; rank = most }) last inside [] 0 d.stack d.place (filling d.stack) (omega arith) l.0;
          late = l.1;
        }

    module _ (best : Option Tree) (before stuck : Option ℕ) (counts : AccountsForGraph P heads links n best before stuck) (none : best ≡ None) (nowhere : stuck ≡ None) where
      never_ends : (d : Configuration) → Run P.grammar P.text first d → ComesTooDeep P.grammar P.text d ⊎ (((u : Tree) × AcceptsTree P.grammar P.text d u) ⊎ ((q : ℕ) × StopsAt P.grammar P.text d q)) → ⊥
      never_ends d run end = by end
        where
          known : EndsBefore P heads links n d
          known = ends_early P facts base rank most ranked n heads links graph whole d (early d run)

          by : ComesTooDeep P.grammar P.text d ⊎ (((u : Tree) × AcceptsTree P.grammar P.text d u) ⊎ ((q : ℕ) × StopsAt P.grammar P.text d q)) → ⊥
          by (inl deep) = known.shallow deep
          by (inr (inl a)) = let v = known.accepts a.0 a.1 in no_tree best v.0 none (counts.accepted v.0 v.1 v.2 v.3)
          by (inr (inr s)) = let v = known.stops s.0 s.1 in no_place stuck s.0 nowhere (counts.places s.0 v.0 v.1 v.2)

      module _ (seen : (g : FlatGrammar) (valid : List Symbol) (rest : Bytes) → ((f : Found) → Lex g valid rest f → ⊥) → ⊥) where
        sees : (d : Configuration) → Run P.grammar P.text first d → ((f : Found) × NextIs P.grammar P.text d f → ⊥) → ⊥
        sees d run lacks =
            let state = lays_state P facts base [] 0 d.stack d.place (filling d.stack) 0 at_first (laid d run).0 in
            let tokens = facts.states.valid (filling d.stack) state.0 state.1 in
            seen P.grammar tokens.0 (drop d.place P.text) (λ f lex. lacks (f, (tokens.0, tokens.1, lex)))

        pub some_told : (weight : Configuration → ℕ) → ((d e : Configuration) → d.place ≤ length P.text → StepsOn P.grammar P.text d e → weight e < weight d) → ⊥
        some_told weight falls = some_end facts.laws P.grammar facts.fit P.text first weight (λ d e run step. falls d e (inside_at d run) step) sees never_ends
