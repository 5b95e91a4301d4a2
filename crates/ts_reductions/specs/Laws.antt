-- The laws of other crates that the proofs of reductions rest on.
use Rattle.std.specs.Prelude.{◌≡◌, ℕ, ◌+◌, ◌<◌, ◌≤◌, true, List, [], ◌∷◌, ◌++◌, All, length, map, reverse, slice_get, Option, Some, None}
use Rattle.ts_core.specs.declared.flat.FlatGrammar.{FlatGrammar}
use Rattle.ts_core.specs.declared.flat.Production.{Production}
use Rattle.ts_core.specs.declared.symbol.Symbol.{Symbol}
use Rattle.spec_grammar.specs.Symbols.{production_at}
use Rattle.spec_lexing.specs.Lexing.{token}
use Rattle.spec_tables.specs.Actions.{Act, reduce}
use Rattle.spec_tables.specs.Fit.{Fit}
use Rattle.spec_trees.specs.declared.tree.Tree.{Tree}
use Rattle.spec_trees.specs.Trees.{is_extra_node, span_of, all_spans, tree_depth, bare}
use Rattle.spec_trees.specs.Made.{IsNode, FitsProduction, form_of, of_next, left_of, reduced, filling, step_symbols, BeginsFilled, most_depth}
use Rattle.spec_trees.specs.Choice.{IsInForm}
use Rattle.spec_runs.specs.BareTrees.{KeepsAll}
use Rattle.spec_runs.specs.Configurations.{AreExtras, HasMove}
use Rattle.spec_runs.specs.Moves.{StandsBefore, EndsWithProduction, RepeatsItself}
use Rattle.spec_graph.specs.declared.graph.Head.{Head}
use Rattle.spec_graph.specs.declared.graph.Link.{Link}
use Rattle.spec_graph.specs.States.{ShareState, AreStates}
use Rattle.spec_graph.specs.Laying.{Parsing, from_start, IsMet, SeesAt, PassesAt, extra_tree, node_made, Lays, CanMakeNode}
use Rattle.spec_graph.specs.Grounded.{IsGrounded}
use Rattle.spec_graph.specs.Replacing.{Replaces}
use Rattle.spec_graph.specs.Keys.{Key, Earlier, LaysBefore}
use Rattle.spec_graph.specs.Links.{IsAt, IsWay, way_trees, IsGraph, IsDue, way_depth}
use Rattle.ts_node.specs.Standing.{depth_by, CanBeReduced, IsMadeWith}

-- For proofs alone: laws of what is laid, of bare trees and of moves.
pub record ReductionLaws : Type 0 where
  pub keeps : (t : Tree) → KeepsAll t
  pub reduced_bare : (g : FlatGrammar) (number extent : ℕ) (state : Option ℕ) (ts : List Tree)
      → bare (reduced g number extent state ts) ≡ bare (reduced g number 0 None (map bare ts))
  pub reduces : (g : FlatGrammar) (read : List ℕ) (t number : ℕ) → Act g read t (reduce number)
      → EndsWithProduction g read number
  pub repeats : (g : FlatGrammar) → Fit g → (number left alternative : ℕ) (p : Production)
      → production_at g number ≡ Some (left, p) → form_of g left number ≡ of_next alternative
      → RepeatsItself left p
  pub through : (t u v : Tree) → Replaces t u → Replaces u v → Replaces t v
  pub spans : (P : Parsing) → Fit P.grammar → AreStates P.grammar P.goto → IsGrounded P
      → (read now : List ℕ) (from place : ℕ) (w : List Tree)
      → Lays P read from w place now → from + all_spans w ≡ place
  pub embeds : (P : Parsing) → Fit P.grammar → AreStates P.grammar P.goto → IsMet P
      → (read now : List ℕ) (from place : ℕ) (w : List Tree)
      → Lays P read from w place now → Lays (from_start P) read from w place now
  pub passes_same : (P : Parsing) → Fit P.grammar → AreStates P.grammar P.goto → IsGrounded P
      → (read now : List ℕ) (from place : ℕ) (t : Tree)
      → Lays P read from (t ∷ []) place now → is_extra_node t ≡ true → now ≡ read
  pub shared : (P : Parsing) → Fit P.grammar → AreStates P.grammar P.goto
      → (read other : List ℕ) (place : ℕ) (s : Symbol) (pad size : ℕ)
      → ShareState P.goto read other → PassesAt P read place s pad size
      → PassesAt P other place s pad size
  pub again : (P : Parsing) → Fit P.grammar → AreStates P.grammar P.goto
      → (number left : ℕ) (p : Production) (earlier : List ℕ)
      → production_at P.grammar number ≡ Some (left, p)
      → (read now : List ℕ) (place pad size : ℕ) (s : Symbol)
      → ShareState P.goto read (reverse (step_symbols p) ++ earlier)
      → ShareState P.goto (left ∷ earlier) now → HasMove P.grammar now s.0
      → SeesAt P read place (token s pad size) → SeesAt P now place (token s pad size)
  pub due : (P : Parsing) → Fit P.grammar → AreStates P.grammar P.goto → IsGrounded P
      → (rank : ℕ → ℕ) (heads : List Head) (links : List Link)
      → IsGraph P heads links
      → (k : Key) (number left : ℕ) (p : Production) (h e b : ℕ) (outer inner : List Link)
      (read : List ℕ) (s : Symbol) (pad size : ℕ)
      → IsAt P heads h read k.look
      → SeesAt P read k.look (token s pad size)
      → Act P.grammar read s.0 (reduce number)
      → production_at P.grammar number ≡ Some (left, p) → k.rank ≡ rank left
      → IsWay links h outer e → AreExtras (way_trees outer) → IsWay links e inner b
      → 0 < length (way_trees inner) → BeginsFilled (way_trees inner)
      → BeginsFilled (reverse (way_trees inner))
      → length (filling (way_trees inner)) ≡ length p.steps
      → ((low : Head) → slice_get heads b ≡ Some low → low.place ≡ k.begins)
      → (over now : List ℕ) × (end : ℕ)
      × IsDue P rank heads links k number left p h e b outer inner over now end
      × (filling (way_trees inner) ≡ reverse (step_symbols p))
      × StandsBefore P.grammar now left
  pub laid : (P : Parsing) → Fit P.grammar → AreStates P.grammar P.goto → IsGrounded P
      → (rank : ℕ → ℕ) (heads : List Head) (links : List Link) → IsGraph P heads links
      → (k : Key) (number left : ℕ) (p : Production) (h e b : ℕ) (outer inner : List Link)
      (over now : List ℕ) (end : ℕ)
      → IsDue P rank heads links k number left p h e b outer inner over now end
      → P.place ≤ k.look → way_depth P number left inner ≤ most_depth
      → Lays P now k.begins
      (node_made P number (reverse (way_trees inner)) ∷ []) end (left ∷ now)
  pub end : (P : Parsing) → Fit P.grammar → AreStates P.grammar P.goto → IsGrounded P
      → (rank : ℕ → ℕ) (heads : List Head) (links : List Link) → IsGraph P heads links
      → (k : Key) (number left : ℕ) (p : Production) (h e b : ℕ) (outer inner : List Link)
      (over now : List ℕ) (end : ℕ)
      → IsDue P rank heads links k number left p h e b outer inner over now end
      → P.place ≤ k.look → P.place ≤ end
  pub depth : (P : Parsing) → Fit P.grammar → AreStates P.grammar P.goto → IsGrounded P
      → (rank : ℕ → ℕ) (heads : List Head) (links : List Link) → IsGraph P heads links
      → (k : Key) (number left : ℕ) (p : Production) (h e b : ℕ) (outer inner : List Link)
      (over now : List ℕ) (end : ℕ)
      → IsDue P rank heads links k number left p h e b outer inner over now end
      → tree_depth (node_made P number (reverse (way_trees inner)))
      ≤ way_depth P number left inner
  pub deepest : (P : Parsing) → Fit P.grammar → AreStates P.grammar P.goto → IsMet P
      → (rank : ℕ → ℕ) (heads : List Head) (links : List Link) → IsGraph P heads links
      → (k : Key) (number left : ℕ) (p : Production) (h e b : ℕ) (outer inner : List Link)
      (over now : List ℕ) (end : ℕ)
      → IsDue P rank heads links k number left p h e b outer inner over now end
      → way_depth P number left inner ≤ most_depth
      → (t : Tree) × Lays (from_start P) now k.begins (t ∷ []) end (left ∷ now)
      × (tree_depth t ≡ way_depth P number left inner)
  pub extras : (P : Parsing) → Fit P.grammar → AreStates P.grammar P.goto → IsGrounded P
      → (rank : ℕ → ℕ) (heads : List Head) (links : List Link) → IsGraph P heads links
      → (k : Key) (number left : ℕ) (p : Production) (h e b : ℕ) (outer inner : List Link)
      (over now : List ℕ) (end : ℕ)
      → IsDue P rank heads links k number left p h e b outer inner over now end
      → P.place ≤ k.look → way_depth P number left inner ≤ most_depth
      → (above below : List Tree) (x : Tree) → way_trees outer ≡ above ++ x ∷ below
      → Lays P (left ∷ now) (end + all_spans below) (x ∷ [])
      ((end + all_spans below) + span_of x) (left ∷ now)
  pub extra : (P : Parsing) → Fit P.grammar → AreStates P.grammar P.goto → IsGrounded P
      → (rank : ℕ → ℕ) (k : Key) (read : List ℕ) (from : ℕ) (s : Symbol) (pad size : ℕ)
      → P.place ≤ from → (read ≡ [] → ⊥) → PassesAt P read from s pad size
      → (place : ℕ) (now : List ℕ) (t : Tree)
      → LaysBefore P rank k read from (t ∷ []) place now
      → (t ≡ extra_tree s pad size) × (place ≡ from + (pad + size)) × (now ≡ read)
  pub none_behind : (P : Parsing) → Fit P.grammar → AreStates P.grammar P.goto → IsGrounded P
      → (read : List ℕ) (from : ℕ) (s : Symbol) (pad size : ℕ)
      → P.place ≤ from → (read ≡ [] → ⊥) → PassesAt P read from s pad size
      → (ks : List Tree) (end : ℕ) (over : List ℕ) (extras : List Tree)
      (look number left : ℕ) (p : Production)
      → CanMakeNode P read from ks end over extras look number left p → ⊥
  pub late : (P : Parsing) → Fit P.grammar → AreStates P.grammar P.goto → IsGrounded P
      → (rank : ℕ → ℕ) (k : Key) (read : List ℕ) (from : ℕ)
      → P.place ≤ from → (read ≡ [] → ⊥) → k.look ≤ from
      → (place : ℕ) (now : List ℕ) (t : Tree)
      → LaysBefore P rank k read from (t ∷ []) place now → ⊥
  pub late_nodes : (P : Parsing) → Fit P.grammar → AreStates P.grammar P.goto → IsGrounded P
      → (rank : ℕ → ℕ) (k : Key) (read : List ℕ) (from : ℕ)
      → P.place ≤ from → (read ≡ [] → ⊥) → k.look ≤ from
      → (ks : List Tree) (end : ℕ) (over : List ℕ) (extras : List Tree)
      (look number left : ℕ) (p : Production)
      → CanMakeNode P read from ks end over extras look number left p
      → Earlier (record { look = look; begins = from; rank = rank left }) k → ⊥

-- For proofs alone: laws of the node that a reduction makes.
pub record NodeLaws : Type 0 where
  pub node : (g : FlatGrammar) (number extent : ℕ) (state : Option ℕ) (children : List Tree)
      → CanBeReduced g number extent state children
      → IsNode (reduced g number extent state children)
  pub depth : (g : FlatGrammar) (number extent : ℕ) (state : Option ℕ) (children : List Tree)
      → tree_depth (reduced g number extent state children)
      ≡ depth_by (form_of g (left_of g number) number) children
  pub made : (g : FlatGrammar) (number extent : ℕ) (state : Option ℕ) (children : List Tree)
      → IsMadeWith (left_of g number) extent state (reduced g number extent state children)
  pub form : (g : FlatGrammar) (number extent : ℕ) (state : Option ℕ) (children : List Tree)
      → FitsProduction g number children → All (IsInForm g) children
      → IsInForm g (reduced g number extent state children)
