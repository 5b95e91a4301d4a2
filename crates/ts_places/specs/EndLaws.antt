-- The laws that the proofs of what ends rest on.
use Rattle.std.specs.Prelude.{◌≡◌, ℕ, ◌≤◌, All, List, [], ◌∷◌, ◌++◌, drop, length, map, reverse}
use Rattle.ts_base.specs.Bytes.{Bytes}
use Rattle.ts_core.specs.declared.flat.FlatGrammar.{FlatGrammar}
use Rattle.spec_grammar.specs.Symbols.{start_symbol}
use Rattle.spec_tables.specs.Actions.{Act, accept}
use Rattle.spec_tables.specs.Fit.{Fit}
use Rattle.spec_tables.specs.Items.{end_token}
use Rattle.spec_trees.specs.declared.tree.Tree.{Tree}
use Rattle.spec_trees.specs.Trees.{node_extent, elements_of, children_of, span_of, all_spans, bare}
use Rattle.spec_trees.specs.Made.{IsNode, accepted, filling}
use Rattle.spec_trees.specs.Choice.{IsInForm}
use Rattle.spec_runs.specs.BareTrees.{KeepsAll}
use Rattle.spec_forced.specs.Forced.{Stands}
use Rattle.spec_forced.specs.Sound.{States, IsStateAfter, StandsForState, IsSound, StandOnStack}
use Rattle.spec_graph.specs.declared.graph.Head.{Head}
use Rattle.spec_graph.specs.declared.graph.Link.{Link}
use Rattle.spec_graph.specs.States.{AreStates}
use Rattle.spec_graph.specs.Laying.{Parsing}
use Rattle.spec_graph.specs.Grounded.{IsGrounded}
use Rattle.spec_graph.specs.Links.{IsAt, IsWay, way_trees, IsGraph}
use Rattle.spec_graph.specs.Laws.{GraphLaws}
use Rattle.ts_node.specs.Standing.{IsAcceptable}
use Rattle.ts_table.specs.declared.view.ParseTable.{ParseTable}
use Rattle.ts_table.specs.Tables.{IsTable, IsStateOf}
use Rattle.ts_steps.specs.Heads.{AreStatesOf}

-- For proofs alone: laws of graphs, and of accepted roots.
pub record EndLaws : Type 0 where
  pub graphs : GraphLaws
  pub bared : (root : Tree) (before after : List Tree) (extent : ℕ)
      → bare (accepted root before after extent)
      ≡ bare (accepted (bare root) (map bare before) (map bare after) 0)
  pub node : (root : Tree) (before after : List Tree) (extent : ℕ)
      → IsAcceptable root before after extent → IsNode (accepted root before after extent)
  pub form : (g : FlatGrammar) (root : Tree) (before after : List Tree) (extent : ℕ)
      → length (elements_of root) ≡ 0
      → IsInForm g root → All (IsInForm g) before → All (IsInForm g) after
      → IsInForm g (accepted root before after extent)

-- For proofs alone: laws of what is read where a way leads down, and of roots that are sound.
pub record RootLaws : Type 0 where
  pub keeps : (t : Tree) → KeepsAll t
  pub accepts : (g : FlatGrammar) (read : List ℕ) (t : ℕ) → Act g read t accept
      → (t ≡ end_token) × (read ≡ start_symbol g ∷ [])
  pub symbols : (P : Parsing) → Fit P.grammar → AreStates P.grammar P.goto → IsGrounded P
      → (heads : List Head) (links : List Link) → IsGraph P heads links
      → (h place : ℕ) (read : List ℕ) (way : List Link) → IsAt P heads h read place
      → IsWay links h way 0 → IsAt P heads h (filling (way_trees way)) place
  pub named : (t : ParseTable) (states : States) (read : List ℕ) (state : ℕ) → IsTable t
      → AreStatesOf t states → IsStateOf t read state → IsStateAfter t.grammar states state read
  pub tells : (g : FlatGrammar) (states : States) (text : Bytes) (place state : ℕ) (t : Tree)
      (read : List ℕ)
      → IsStateAfter g states state read → StandsForState g states text place state t
      → Stands g read (drop place text) t (node_extent t)
  pub root : (g : FlatGrammar) (states : States) (text : Bytes) (before after : List Tree)
      (root : Tree) (extent : ℕ)
      → span_of root ≡ all_spans (children_of root)
      → StandOnStack g states text (reverse after ++ root ∷ reverse before)
      → all_spans (reverse after ++ root ∷ reverse before) ≤ length text
      → IsSound g states text (accepted root before after extent)
