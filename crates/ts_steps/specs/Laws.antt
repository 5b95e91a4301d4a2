-- The laws of nodes that stand, and of runs without a choice, on which the proofs here rest. They
-- serve private clauses and proofs alone.
use Rattle.std.specs.Prelude.{◌≡◌, ℕ, ◌+◌, ◌<◌, ◌≤◌, ◌⊎◌, true, List, [], ◌∷◌, ◌++◌, length, reverse, map, drop, Option, Some}
use Rattle.ts_base.specs.Bytes.{Bytes}
use Rattle.ts_core.specs.declared.flat.FlatGrammar.{FlatGrammar}
use Rattle.ts_core.specs.declared.flat.Production.{Production}
use Rattle.ts_core.specs.declared.symbol.Symbol.{Symbol}
use Rattle.spec_grammar.specs.Symbols.{is_extra, production_at}
use Rattle.spec_lexing.specs.Lexing.{token, Lex}
use Rattle.spec_lexing.specs.Seen.{Agree}
use Rattle.spec_tables.specs.Actions.{shift, reduce}
use Rattle.spec_tables.specs.Fit.{Fit}
use Rattle.spec_trees.specs.declared.tree.Tree.{Tree}
use Rattle.spec_trees.specs.declared.tree.Stretch.{Stretch}
use Rattle.spec_trees.specs.Trees.{is_settled, state_of, node_extent, elements_of, children_of, span_of, all_spans, tree_depth, bare}
use Rattle.spec_trees.specs.Made.{IsNode, leaf_of, as_extra, reduced, accepted, lengthened, children_count, reach_of, step_symbols, most_depth}
use Rattle.spec_trees.specs.Choice.{Better}
use Rattle.spec_runs.specs.Configurations.{Configuration, stack_symbols, pushed, token_tree, HasMove, NextIs, IsReduction, AreValidTokens, AreExtras}
use Rattle.spec_runs.specs.Runs.{StepsOn, Run, IsReached, ComesTooDeep, AcceptsTree, StopsAt}
use Rattle.spec_runs.specs.Outcomes.{SomeIsTooDeep}
use Rattle.spec_packing.specs.Packing.{PackedTree, PackedStack, own_config, stack_alone, Packs, WasMet, GoesThrough, IsPackedReduction, PackedStepsOn, PackedIsTooDeep}
use Rattle.spec_packing.specs.Serving.{ServesConfiguration, ComesToServe}
use Rattle.spec_forced.specs.Forced.{IsOnlyMove, IsDecided, Stands, StandInTurn, MakesNode}
use Rattle.spec_forced.specs.Behind.{IsOfSymbol}
use Rattle.spec_forced.specs.OnlyRuns.{IsOnlyStep, Meet}
use Rattle.spec_forced.specs.Sound.{States, IsStateAfter, StandsForState, AllSound, IsSound, IsHonestStretch, EachHasState, IsWholeSoFar, StandOnStack}
use Rattle.ts_node.specs.Standing.{CanBeLengthened}
use Rattle.ts_table.specs.declared.view.ParseTable.{ParseTable}
use Rattle.ts_lexer.specs.States.{AreValid}

-- For proofs alone: laws of lexings that are decided, of nodes that stand, and of stacks of them.
pub record SoundLaws : Type 0 where
  pub lists : (g : FlatGrammar) (read : List ℕ) (rest : Bytes) (s : Symbol) (pad size extent : ℕ)
      (valid : List Symbol)
      → AreValidTokens g read valid → HasMove g read s.0 ⊎ (is_extra g s.0 ≡ true)
      → ((other : Bytes) → Agree extent rest other
      → (v : List Symbol) × AreValidTokens g read v × Lex g v other (token s pad size))
      → IsDecided g read rest (token s pad size) extent
  pub leaf : (g : FlatGrammar) (read : List ℕ) (rest : Bytes) (s : Symbol)
      (pad size e extent : ℕ) (state : Option ℕ)
      → IsDecided g read rest (token s pad size) e → IsOnlyMove g read s.0 shift
      → Stands g read rest (leaf_of s.0 pad size extent state) e
  pub extra : (g : FlatGrammar) (read : List ℕ) (rest : Bytes) (s : Symbol)
      (pad size e extent : ℕ) (state : Option ℕ)
      → IsDecided g read rest (token s pad size) e → is_extra g s.0 ≡ true
      → (HasMove g read s.0 → ⊥)
      → Stands g read rest (as_extra (leaf_of s.0 pad size extent state)) e
  pub childless : (g : FlatGrammar) (states : States) (text : Bytes) (t : Tree) (place : ℕ)
      → children_of t ≡ [] → elements_of t ≡ []
      → ((state : ℕ) → is_settled t ≡ true → state_of t ≡ Some state
      → StandsForState g states text place state t)
      → AllSound g states text (t ∷ []) place
  pub in_turn : (g : FlatGrammar) (states : States) (text : Bytes) (ts below : List Tree)
      → EachHasState ts → StandOnStack g states text (reverse ts ++ below)
      → StandInTurn g (stack_symbols below) (drop (all_spans below) text) ts
  pub put : (g : FlatGrammar) → Fit g → (states : States) (text : Bytes)
      (number left : ℕ) (p : Production) (children lifted below : List Tree) (extent : ℕ)
      (state : Option ℕ) (valid : List Symbol)
      → production_at g number ≡ Some (left, p) → stack_symbols children ≡ step_symbols p
      → IsWholeSoFar g left number children → AreExtras lifted
      → AreValidTokens g (left ∷ stack_symbols below) valid
      → tree_depth (reduced g number extent state children) ≤ most_depth
      → ((s : ℕ) → state ≡ Some s → IsStateAfter g states s (stack_symbols below)
      × MakesNode g (stack_symbols below) (drop (all_spans below) text) number children lifted
      extent
      × EachHasState children)
      → StandOnStack g states text (lifted ++ (reverse children ++ below))
      → StandOnStack g states text (lifted ++ reduced g number extent state children ∷ below)
  pub root : (g : FlatGrammar) (states : States) (text : Bytes) (before after : List Tree)
      (root : Tree) (extent : ℕ)
      → span_of root ≡ all_spans (children_of root)
      → StandOnStack g states text (reverse after ++ root ∷ reverse before)
      → all_spans (reverse after ++ root ∷ reverse before) ≤ length text
      → IsSound g states text (accepted root before after extent)
  pub told : (g : FlatGrammar) (states : States) (text : Bytes) (place state : ℕ) (t : Tree)
      (read : List ℕ)
      → IsStateAfter g states state read → Stands g read (drop place text) t (node_extent t)
      → StandsForState g states text place state t
  pub after : (g : FlatGrammar) (states : States) (text : Bytes) (place state : ℕ) (t : Tree)
      (read : List ℕ)
      → IsStateAfter g states state read → StandsForState g states text place state t
      → Stands g read (drop place text) t (node_extent t)
  pub tokens : (t : ParseTable) (state : ℕ) → (valid : List Symbol) × AreValid t state valid

-- For proofs alone: laws of a repetition that is lengthened at once.
pub record LengthLaws : Type 0 where
  pub node : (before : Tree) (more : Stretch) (extent : ℕ) (state : Option ℕ)
      → CanBeLengthened before more extent → IsNode (lengthened before more extent state)
  pub over_extras : (g : FlatGrammar) → Fit g → (states : States) (text : Bytes)
      (state symbol extent : ℕ) (s : Stretch) (xs below : List Tree) (t : Tree) (o : Option ℕ)
      → 0 < length s.elements → IsOfSymbol symbol t
      → IsStateAfter g states state (stack_symbols below)
      → IsHonestStretch g states text (all_spans (t ∷ below)) state symbol s
      → tree_depth (lengthened t s extent o) ≤ most_depth → AreExtras xs → EachHasState xs
      → StandOnStack g states text (reverse xs ++ t ∷ below)
      → Meet g text (record {
        stack = map bare (reverse xs ++ t ∷ below);
        place = all_spans (reverse xs ++ t ∷ below);
      })
      (record {
        stack = map bare (lengthened t s extent o ∷ below);
        place = all_spans (t ∷ below) + all_spans s.children;
      })
  pub on_stack : (g : FlatGrammar) → Fit g → (states : States) (text : Bytes)
      (state symbol extent : ℕ) (s : Stretch) (below : List Tree) (t : Tree)
      → 0 < length s.elements → IsOfSymbol symbol t
      → span_of t ≡ all_spans (children_of t)
      → children_count (elements_of t) ≡ length (children_of t)
      → IsStateAfter g states state (stack_symbols below)
      → IsHonestStretch g states text (all_spans (t ∷ below)) state symbol s
      → node_extent t ≤ extent → span_of t + reach_of s.elements s.children ≤ extent
      → tree_depth (lengthened t s extent (state_of t)) ≤ most_depth
      → StandOnStack g states text (t ∷ below)
      → StandOnStack g states text (lengthened t s extent (state_of t) ∷ below)

-- For proofs alone: laws of steps that are the only ones.
pub record OnlyLaws : Type 0 where
  pub shifted : (g : FlatGrammar) (text : Bytes) (c : Configuration) (s : Symbol) (pad size : ℕ)
      → NextIs g text c (token s pad size) → IsOnlyMove g (stack_symbols c.stack) s.0 shift
      → IsOnlyStep g text c (pushed c (token_tree s pad size))
  pub passed : (g : FlatGrammar) (text : Bytes) (c : Configuration) (s : Symbol) (pad size : ℕ)
      → NextIs g text c (token s pad size) → is_extra g s.0 ≡ true
      → (HasMove g (stack_symbols c.stack) s.0 → ⊥)
      → IsOnlyStep g text c (pushed c (as_extra (token_tree s pad size)))
  pub reduced : (g : FlatGrammar) (text : Bytes) (c : Configuration) (s : Symbol)
      (pad size number : ℕ) (node : Tree) (after : List Tree)
      → NextIs g text c (token s pad size)
      → IsOnlyMove g (stack_symbols c.stack) s.0 (reduce number)
      → IsReduction g number c.stack node after → tree_depth node ≤ most_depth
      → IsOnlyStep g text c (record { stack = after; place = c.place })

-- For proofs alone: laws of readings that stand for others, and of layers that stand for readings.
pub record PackLaws : Type 0 where
  pub no_better : (t u v : Tree) → (Better u t → ⊥) → (Better v u → ⊥) → Better v t → ⊥
  pub deep_served : (g : FlatGrammar) → Fit g → (text : Bytes) (c d : Configuration)
      → IsReached g text c → IsReached g text d → ServesConfiguration d c
      → ComesTooDeep g text c → ComesTooDeep g text d
  pub stops_served : (g : FlatGrammar) (text : Bytes) (c d : Configuration) (place : ℕ)
      → ServesConfiguration d c → StopsAt g text c place → StopsAt g text d place
  pub accepts_served : (g : FlatGrammar) → Fit g → (text : Bytes) (c d : Configuration) (u : Tree)
      → IsReached g text c → IsReached g text d → ServesConfiguration d c
      → AcceptsTree g text c u → (t : Tree) × AcceptsTree g text d t × (Better u t → ⊥)
  pub run_served : (g : FlatGrammar) → Fit g → (text : Bytes) (c d e : Configuration)
      → IsReached g text c → IsReached g text d → ServesConfiguration d c → Run g text c e
      → ComesToServe g text d e
  pub own : (g : FlatGrammar) → Fit g → (text : Bytes) (c : Configuration) → IsReached g text c
      → WasMet g text (stack_alone c) × Packs (stack_alone c) c
  pub met : (g : FlatGrammar) → Fit g → (text : Bytes) (k n : PackedStack) → WasMet g text k
      → PackedStepsOn g text k n → WasMet g text n
  pub too_deep : (g : FlatGrammar) → Fit g → (text : Bytes) (k : PackedStack) → WasMet g text k
      → PackedIsTooDeep g text k → SomeIsTooDeep g text
  pub on : (g : FlatGrammar) → Fit g → (text : Bytes) (k : PackedStack) (d : Configuration)
      → WasMet g text k → GoesThrough g text k d
      → Packs k d ⊎ (PackedIsTooDeep g text k
      ⊎ ((n : PackedStack) × PackedStepsOn g text k n × GoesThrough g text n d))
  pub deep : (g : FlatGrammar) → Fit g → (text : Bytes) (k : PackedStack) (c : Configuration)
      → WasMet g text k → IsReached g text c → Packs k c → ComesTooDeep g text c
      → PackedIsTooDeep g text k
  pub stops : (g : FlatGrammar) → Fit g → (text : Bytes) (k : PackedStack) (c : Configuration)
      (place : ℕ) → Packs k c → StopsAt g text c place → StopsAt g text (own_config k) place
  pub accepts : (g : FlatGrammar) → Fit g → (text : Bytes) (k : PackedStack) (c : Configuration)
      (u : Tree) → WasMet g text k → IsReached g text c → Packs k c → AcceptsTree g text c u
      → (t : Tree) × AcceptsTree g text (own_config k) t × (Better u t → ⊥)
  pub once : (g : FlatGrammar) (number : ℕ) (stack : List PackedTree) (n m : PackedTree)
      (after other : List PackedTree)
      → IsPackedReduction g number stack n after → IsPackedReduction g number stack m other
      → (n ≡ m) × (after ≡ other)
  pub steps : (g : FlatGrammar) → Fit g → (text : Bytes) (c : Configuration) → IsReached g text c
      → (d : Configuration) → StepsOn g text c d
      → PackedStepsOn g text (stack_alone c) (stack_alone d)
