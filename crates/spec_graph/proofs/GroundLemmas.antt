-- A graph over a stack, said from the start of the text; and the trees of a stack to which a run came.
use Rattle.std.proofs.Common.{◌≡◌, ◌∙◌, sym, ap, subst, refl, ℕ, inl, List, [], ◌∷◌, ◌++◌, slice_get, Option, Some, arith}
use Rattle.std.proofs.lemmas.Option.{slice_get_within}
use Rattle.spec_trees.specs.declared.tree.Tree.{Tree}
use Rattle.spec_trees.specs.Trees.{all_spans}
use Rattle.spec_trees.specs.Made.{filling, BeginsFilled}
use Rattle.spec_runs.specs.Configurations.{Configuration, starting}
use Rattle.spec_runs.specs.Runs.{run_here, IsReached}
use Rattle.spec_packing.specs.Packing.{PackedTree, packed_trees, AllCover}
use Rattle.spec_graph.specs.declared.graph.Head.{Head}
use Rattle.spec_graph.specs.declared.graph.Link.{Link}
use Rattle.spec_graph.specs.States.{LeadsTo, at_first}
use Rattle.spec_graph.specs.Laying.{Parsing, from_start, IsMet, HasRun, IsReading}
use Rattle.spec_graph.specs.Grounded.{AreMadeTrees, HaveExtrasBytes, BeginsWithBytes, IsGrounded}
use Rattle.spec_graph.specs.Links.{IsGraph}
use Rattle.spec_graph.proofs.ReadingLemmas.{own_reading}
use Rattle.spec_graph.proofs.SightLemmas.{Facts}
use Rattle.spec_graph.proofs.LayLemmas.{lays_made, lays_ruled}
use Rattle.spec_graph.proofs.TreeLemmas.{made_trees}
use Rattle.spec_graph.proofs.BaseLemmas.{start_facts, start_base, all_laid, embed}

module _ (P : Parsing) (facts : Facts P) where
  -- the trees of a stack to which a run came
  pub stack_made : (c : Configuration) → IsReached P.grammar P.text c → AreMadeTrees P.grammar c.stack
  stack_made c reached =
      let laid = all_laid P facts c reached in
      made_trees P.grammar c.stack (lays_made (from_start P) (start_facts P facts) (start_base P facts) [] 0 c.stack c.place (filling c.stack) laid)
      (lays_ruled (from_start P) (start_facts P facts) (start_base P facts) [] 0 c.stack c.place (filling c.stack) laid)

  -- a graph over a stack that was met is one from the start
  pub graph_start : IsMet P → (heads : List Head) (links : List Link) → IsGraph P heads links → IsGraph (from_start P) heads links
  graph_start met heads links g = record {
    start = g.start;
    linked = λ l there.
        let k = g.linked l there in
        record {
          under = k.under;
          over = k.over;
          from = k.from;
          to = k.to;
          below = k.below;
          above = k.above;
          lays = embed P facts met k.under k.from (l.tree ∷ []) k.to k.over k.lays;
          shallow = k.shallow;
          flat = k.flat;
          deepest = λ start. k.deepest met;
        };
    down = g.down;
  }

  -- where runs go on from the start
  module _ (fresh : P.layers ≡ []) (zero_place : P.place ≡ 0) where
    no_layers : AllCover P.layers (packed_trees P.layers)
    no_layers = subst (λ (ls : List PackedTree). AllCover ls (packed_trees ls)) (sym fresh) tt

    pub start_ground : IsGrounded P
    start_ground = record {
      spans = ap (λ (ls : List PackedTree). all_spans (packed_trees ls)) fresh ∙ sym zero_place;
      begins = subst (λ (ls : List PackedTree). BeginsFilled (packed_trees ls)) (sym fresh) tt;
      some = subst (λ (ls : List PackedTree). BeginsWithBytes (packed_trees ls)) (sym fresh) tt;
      some_extras = subst (λ (ls : List PackedTree). HaveExtrasBytes (packed_trees ls)) (sym fresh) tt;
      made = subst (λ (ls : List PackedTree). AreMadeTrees P.grammar (packed_trees ls)) (sym fresh) tt;
      own = no_layers;
      states = λ above below at. (0, subst (λ (r : List ℕ). LeadsTo P.goto r 0) (sym (ap (λ (ls : List PackedTree). filling (packed_trees ls)) (none above below (sym at ∙ fresh)))) at_first);
    }
      where
        none : (above below : List PackedTree) → above ++ below ≡ [] → below ≡ []
        none [] below e = e
        none (x ∷ above) below e = absurd (let h : x ∷ (above ++ below) ≡ [] = e in cc)

    -- the empty stack is a reading, and it was met
    pub start_reading : IsReading P []
    start_reading = subst (λ (ts : List Tree). IsReading P ts) (ap (λ (ls : List PackedTree). packed_trees ls) fresh) (own_reading P no_layers)

    abbrev pub start_run : HasRun P []
    start_run = record { config = starting; reached = run_here starting; extras = []; stack_is = refl; all_extras = tt }

    pub start_met : IsMet P
    start_met = record {
      stack = record { stack = []; place = 0 };
      begun = record {
        extras = [];
        stack_is = sym fresh;
        all_extras = tt;
        begins = subst (λ (ls : List PackedTree). BeginsFilled (packed_trees ls)) (sym fresh) tt;
        bytes = inl fresh;
        place_is = zero_place ∙ sym (ap (λ (ls : List PackedTree). all_spans (packed_trees ls)) fresh);
      };
      met = record {
        reached = run_here starting;
        own = record { place = refl; stack = tt };
        deepest = λ n d is. absurd (none_there n d is);
      };
    }
      where
        none_there : (n d : ℕ) → ◌≡◌ {A = Option ℕ} (slice_get [] n) (Some d) → ⊥
        none_there n d is = let w = slice_get_within [] n d is in omega (arith, w)
