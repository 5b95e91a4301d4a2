-- The laws of other crates that the proofs of laid trees rest on.
use Rattle.std.specs.Prelude.{◌≡◌, ℕ, ◌≤◌, true, List, [], ◌∷◌}
use Rattle.spec_tables.specs.Fit.{Fit}
use Rattle.spec_trees.specs.declared.tree.Tree.{Tree}
use Rattle.spec_trees.specs.Trees.{is_extra_node, bare}
use Rattle.spec_trees.specs.Choice.{Better}
use Rattle.spec_runs.specs.BareTrees.{KeepsAll}
use Rattle.spec_graph.specs.declared.graph.Head.{Head}
use Rattle.spec_graph.specs.States.{AreStates}
use Rattle.spec_graph.specs.Laying.{Parsing, from_start, IsMet, PassesTree, Lays}
use Rattle.spec_graph.specs.Grounded.{IsGrounded}
use Rattle.spec_graph.specs.Replacing.{AreAlike, Replaces, ReplacesBoth}
use Rattle.spec_graph.specs.Links.{IsAt}

-- laws of bare trees, of trees that replace others, and of what is laid between two heads
pub record LayingLaws : Type 0 where
  pub keeps : (t : Tree) → KeepsAll t
  pub same : (t : Tree) → Replaces t t
  pub through : (t u v : Tree) → Replaces t u → Replaces u v → Replaces t v
  pub both : (old tree new : Tree) → AreAlike (bare old) (bare tree)
      → (Better tree old → new ≡ tree) → ((Better tree old → ⊥) → new ≡ old)
      → ReplacesBoth old tree new
  pub alike : (P : Parsing) → Fit P.grammar → AreStates P.grammar P.goto → IsGrounded P
      → (heads : List Head) (a b : ℕ) (read other now then : List ℕ) (from to : ℕ) (t u : Tree)
      → IsAt P heads a read from → IsAt P heads b now to
      → IsAt P heads a other from → IsAt P heads b then to
      → Lays P read from (t ∷ []) to now
      → Lays P other from (u ∷ []) to then → AreAlike t u
  pub either : (P : Parsing) → Fit P.grammar → AreStates P.grammar P.goto → IsGrounded P
      → (heads : List Head) (a b : ℕ) (read other now then : List ℕ) (from to : ℕ) (t u : Tree)
      → IsAt P heads a read from → IsAt P heads b now to
      → IsAt P heads a other from → IsAt P heads b then to
      → Lays P read from (t ∷ []) to now
      → Lays P other from (u ∷ []) to then
      → Lays P other from (t ∷ []) to then
  pub deep : (P : Parsing) → Fit P.grammar → AreStates P.grammar P.goto
      → (heads : List Head) (a b : ℕ) (read other now then : List ℕ) (from to : ℕ) (t u : Tree)
      → IsAt P heads a read from → IsAt P heads b now to
      → IsAt P heads a other from → IsAt P heads b then to
      → Lays (from_start P) read from (t ∷ []) to now
      → Lays (from_start P) other from (u ∷ []) to then
      → Lays (from_start P) other from (t ∷ []) to then
  pub embeds : (P : Parsing) → Fit P.grammar → AreStates P.grammar P.goto → IsMet P
      → (read now : List ℕ) (from place : ℕ) (w : List Tree)
      → Lays P read from w place now → Lays (from_start P) read from w place now
  pub passes_tree : (P : Parsing) → Fit P.grammar → AreStates P.grammar P.goto → IsGrounded P
      → (read now : List ℕ) (from place : ℕ) (t : Tree)
      → P.place ≤ place → Lays P read from (t ∷ []) place now → is_extra_node t ≡ true
      → PassesTree P read from t place
  pub passes_same : (P : Parsing) → Fit P.grammar → AreStates P.grammar P.goto → IsGrounded P
      → (read now : List ℕ) (from place : ℕ) (t : Tree)
      → Lays P read from (t ∷ []) place now → is_extra_node t ≡ true → now ≡ read
