-- The laws of other crates that the proofs here rest on.
use Rattle.std.specs.Prelude.{◌≡◌, ℕ, ◌+◌, true, false, List, [], ◌∷◌, ◌++◌, drop}
use Rattle.std.specs.List.{Contains}
use Rattle.ts_base.specs.Bytes.{Bytes}
use Rattle.ts_core.specs.declared.flat.FlatGrammar.{FlatGrammar}
use Rattle.ts_core.specs.declared.symbol.Symbol.{Symbol}
use Rattle.spec_tables.specs.Actions.{Move, Act, accept}
use Rattle.spec_tables.specs.Fit.{Fit}
use Rattle.spec_trees.specs.declared.tree.Tree.{Tree}
use Rattle.spec_trees.specs.Trees.{is_extra_node, node_extent, elements_of, children_of, span_of, all_spans, tree_depth, bare}
use Rattle.spec_trees.specs.Inside.{IsNodeIn}
use Rattle.spec_trees.specs.Made.{filling, AreCounted}
use Rattle.spec_trees.specs.Choice.{code_of, IsInForm}
use Rattle.spec_runs.specs.BareTrees.{KeepsAll}
use Rattle.spec_runs.specs.Configurations.{AreValidTokens}
use Rattle.spec_runs.specs.Moves.{IsUnused}
use Rattle.spec_forced.specs.Forced.{HaveSameItems, Stands}
use Rattle.spec_forced.specs.Sound.{States, IsStateAfter, StandsForState}
use Rattle.spec_graph.specs.declared.graph.Head.{Head}
use Rattle.spec_graph.specs.declared.graph.Link.{Link}
use Rattle.spec_graph.specs.States.{AreStates, AreRanks}
use Rattle.spec_packing.specs.Packing.{PackedTree, packed_trees}
use Rattle.spec_graph.specs.Laying.{Parsing, from_start, IsMet, Lays}
use Rattle.spec_graph.specs.Grounded.{Spells, IsMadeTree, IsGrounded}
use Rattle.spec_graph.specs.Replacing.{Replaces}
use Rattle.spec_graph.specs.Links.{IsAt, IsWay, way_trees, IsGraph, IsWholeTo, HasStood}
use Rattle.ts_table.specs.declared.view.ParseTable.{ParseTable}
use Rattle.ts_table.specs.Tables.{IsTable, IsStateOf}
use Rattle.ts_lexer.specs.States.{AreValid}
use Rattle.ts_steps.specs.Heads.{AreStatesOf}

-- For proofs alone: laws of the states of tables, of nodes that stand, of bare trees, of what is
-- laid on a stack, and of graphs that begin.
pub record EnterLaws : Type 0 where
  pub keeps : (t : Tree) → KeepsAll t
  pub through : (t u v : Tree) → Replaces t u → Replaces u v → Replaces t v
  pub moves : (g : FlatGrammar) (read other : List ℕ) (t : ℕ) (move : Move)
      → HaveSameItems g read other → Act g read t move → Act g other t move
  pub tokens : (t : ParseTable) (state : ℕ) → (valid : List Symbol) × AreValid t state valid
  pub known : (t : ParseTable) (read : List ℕ) (state : ℕ) (valid : List Symbol) → IsTable t
      → IsStateOf t read state → AreValid t state valid → AreValidTokens t.grammar read valid
  pub only_accepts : (g : FlatGrammar) (symbol : ℕ) → IsUnused g symbol
      → (above below : List ℕ) (token : ℕ) (move : Move)
      → Act g (above ++ symbol ∷ below) token move → move ≡ accept
  pub named : (t : ParseTable) (states : States) (read : List ℕ) (state : ℕ) → IsTable t
      → AreStatesOf t states → IsStateOf t read state → IsStateAfter t.grammar states state read
  pub told : (g : FlatGrammar) (states : States) (text : Bytes) (place state : ℕ) (t : Tree)
      (read : List ℕ)
      → IsStateAfter g states state read → Stands g read (drop place text) t (node_extent t)
      → StandsForState g states text place state t
  pub own_laid : (P : Parsing) → Fit P.grammar → AreStates P.grammar P.goto → IsGrounded P
      → (over under : List PackedTree) (l : PackedTree) → P.layers ≡ over ++ l ∷ under
      → Lays P (filling (packed_trees under)) (all_spans (packed_trees under)) (l.tree ∷ [])
      (all_spans (packed_trees under) + span_of l.tree)
      (filling (l.tree ∷ []) ++ filling (packed_trees under))
  pub deep_laid : (P : Parsing) → Fit P.grammar → AreStates P.grammar P.goto → IsMet P
      → (over under : List PackedTree) (l : PackedTree) → P.layers ≡ over ++ l ∷ under
      → (t : Tree) × Lays (from_start P) (filling (packed_trees under))
      (all_spans (packed_trees under)) (t ∷ []) (all_spans (packed_trees under) + span_of l.tree)
      (filling (l.tree ∷ []) ++ filling (packed_trees under)) × (tree_depth t ≡ l.depth)
  pub begins : (P : Parsing) → Fit P.grammar → AreStates P.grammar P.goto → IsGrounded P
      → (rank : ℕ → ℕ) (most : ℕ) → AreRanks P.grammar rank most
      → (heads : List Head) (links : List Link) → IsAt P heads 0 [] 0
      → HasStood P heads links
      → IsWholeTo P rank heads links (record { look = P.place; begins = P.place; rank = most })

-- For proofs alone: laws of bare trees, of nodes that stand, of what is read where a way leads
-- down, and of trees of links.
pub record LeaveLaws : Type 0 where
  pub keeps : (t : Tree) → KeepsAll t
  pub symbols : (P : Parsing) → Fit P.grammar → AreStates P.grammar P.goto → IsGrounded P
      → (heads : List Head) (links : List Link) → IsGraph P heads links
      → (h place : ℕ) (read : List ℕ) (way : List Link) → IsAt P heads h read place
      → IsWay links h way 0 → IsAt P heads h (filling (way_trees way)) place
  pub named : (t : ParseTable) (states : States) (read : List ℕ) (state : ℕ) → IsTable t
      → AreStatesOf t states → IsStateOf t read state → IsStateAfter t.grammar states state read
  pub tells : (g : FlatGrammar) (states : States) (text : Bytes) (place state : ℕ) (t : Tree)
      (read : List ℕ)
      → IsStateAfter g states state read → StandsForState g states text place state t
      → Stands g read (drop place text) t (node_extent t)
  pub spans : (P : Parsing) → Fit P.grammar → AreStates P.grammar P.goto → IsGrounded P
      → (heads : List Head) (links : List Link) → IsGraph P heads links
      → (h place : ℕ) (read : List ℕ) (way : List Link) → IsAt P heads h read place
      → IsWay links h way 0 → all_spans (way_trees way) ≡ place
  pub made : (P : Parsing) → Fit P.grammar → AreStates P.grammar P.goto → IsGrounded P
      → (heads : List Head) (links : List Link) → IsGraph P heads links
      → (l : Link) → Contains links l → IsMadeTree P.grammar l.tree
  pub flat : (P : Parsing) → Fit P.grammar → AreStates P.grammar P.goto → IsGrounded P
      → (heads : List Head) (links : List Link) → IsGraph P heads links
      → (l : Link) → Contains links l → is_extra_node l.tree ≡ true
      → l.depth ≡ tree_depth l.tree

-- For proofs alone: laws of trees such as moves make.
pub record MadeLaws : Type 0 where
  pub spelled : (g : FlatGrammar) (t : Tree) → IsInForm g t
      → ((u : Tree) → IsNodeIn t u → AreCounted (elements_of u) (children_of u))
      → Spells g false 1 (code_of t)
  pub bare_made : (g : FlatGrammar) (t : Tree) → IsMadeTree g t → IsMadeTree g (bare t)
