-- What is known of all runs of a text where a parser goes on from one configuration, and of the
-- ends in a graph of stacks.
use Rattle.std.specs.Prelude.{◌≡◌, ℕ, ◌<◌, ◌≤◌, ◌⊎◌, List, Option, Some, None}
use Rattle.ts_base.specs.Bytes.{Bytes}
use Rattle.ts_core.specs.declared.flat.FlatGrammar.{FlatGrammar}
use Rattle.spec_trees.specs.declared.tree.Tree.{Tree}
use Rattle.spec_trees.specs.Trees.{bare}
use Rattle.spec_trees.specs.Choice.{Better}
use Rattle.spec_runs.specs.Configurations.{Configuration}
use Rattle.spec_runs.specs.Runs.{IsReached, ComesTooDeep, AcceptsTree, StopsAt}
use Rattle.spec_runs.specs.Outcomes.{SomeStopsAt}
use Rattle.spec_packing.specs.Packing.{PackedStack, WasMet, GoesThrough}
use Rattle.spec_graph.specs.declared.graph.Head.{Head}
use Rattle.spec_graph.specs.declared.graph.Link.{Link}
use Rattle.spec_graph.specs.Laying.{Parsing}
use Rattle.spec_graph.specs.Outcomes.{GraphAccepts, GraphStopsAt}

-- ---- the best tree and the greatest place so far

-- there is a best tree so far, and this one is not better
abbrev pub Withstands : Option Tree → Tree → Type 0
Withstands best u = (b : Tree) × (best ≡ Some b) × (Better u (bare b) → ⊥)

-- there is a greatest stuck place so far, which is no less
abbrev pub IsPastStuck : Option ℕ → ℕ → Type 0
IsPastStuck stuck q = (r : ℕ) × (stuck ≡ Some r) × (q ≤ r)

-- ---- all runs

-- all ends of runs at the configuration are accounted for
pub record AccountsFor (g : FlatGrammar) (text : Bytes) (best : Option Tree) (stuck : Option ℕ)
    (c : Configuration) : Type 0 where
  pub accepted : (u : Tree) → AcceptsTree g text c u → Withstands best u
  pub places : (q : ℕ) → StopsAt g text c q → IsPastStuck stuck q
  pub shallow : ComesTooDeep g text c → ⊥

-- Where one live head is left, which stands for layers, and no tree is accepted: the layers were
-- met, and the ends at each configuration that is reached are known, or a run to it goes through
-- what the layers stand for.
pub record PackedRests (g : FlatGrammar) (text : Bytes) (stuck : Option ℕ) (k : PackedStack)
    : Type 0 where
  pub met : WasMet g text k
  pub done : (d : Configuration) → IsReached g text d
      → AccountsFor g text None stuck d ⊎ GoesThrough g text k d
  pub stuck_from : (q : ℕ) → stuck ≡ Some q → SomeStopsAt g text q

-- ---- the ends in a graph

-- The ends in the graph are accounted for, from the place on from which runs go on, up to another
-- place: a tree that it accepts, than which none there is better, and a greatest place at which a
-- head stops, or one that was known before.
pub record AccountsForGraph (P : Parsing) (heads : List Head) (links : List Link) (n : ℕ)
    (best : Option Tree) (before stuck : Option ℕ) : Type 0 where
  pub accepted : (t : Tree) → (a : GraphAccepts P heads links t) → P.place ≤ a.place
      → a.place < n → Withstands best t
  pub tree_from : (b : Tree) → best ≡ Some b → GraphAccepts P heads links (bare b)
  pub places : (q : ℕ) → (s : GraphStopsAt P heads q) → P.place ≤ s.place → s.place < n
      → IsPastStuck stuck q
  pub past : (q : ℕ) → IsPastStuck before q → IsPastStuck stuck q
  pub stuck_from : (q : ℕ) → stuck ≡ Some q → (before ≡ Some q) ⊎ GraphStopsAt P heads q
