-- The fresh outcome of a text: what parsing it from its start comes to, over all runs.
use Rattle.std.specs.Prelude.{◌≡◌, ℕ, ◌≤◌}
use Rattle.ts_base.specs.Bytes.{Bytes}
use Rattle.ts_core.specs.declared.flat.FlatGrammar.{FlatGrammar}
use Rattle.spec_trees.specs.declared.tree.Tree.{Tree}
use Rattle.spec_trees.specs.Trees.{total_of, bare}
use Rattle.spec_trees.specs.Choice.{code_of, Better}
use Rattle.spec_runs.specs.Configurations.{Configuration}
use Rattle.spec_runs.specs.Runs.{IsReached, ComesTooDeep, AcceptsTree, StopsAt}

-- what a text comes to
pub data FreshOutcome : Type 0 where
  deep_outcome : FreshOutcome
  tree_outcome : Tree → FreshOutcome
  stuck_outcome : ℕ → FreshOutcome

-- some run comes to a reduction whose node would be too deep
abbrev pub SomeIsTooDeep : FlatGrammar → Bytes → Type 0
SomeIsTooDeep g text = (c : Configuration) × IsReached g text c × ComesTooDeep g text c

-- some run accepts the tree
abbrev pub SomeAccepts : FlatGrammar → Bytes → Tree → Type 0
SomeAccepts g text t = (c : Configuration) × IsReached g text c × AcceptsTree g text c t

-- some run is stuck at the place
abbrev pub SomeStopsAt : FlatGrammar → Bytes → ℕ → Type 0
SomeStopsAt g text place = (c : Configuration) × IsReached g text c × StopsAt g text c place

-- no run comes to a node that is too deep, some run accepts the tree, and no better one is accepted
pub record IsBestTree (g : FlatGrammar) (text : Bytes) (t : Tree) : Type 0 where
  pub shallow : SomeIsTooDeep g text → ⊥
  pub accepted : SomeAccepts g text t
  pub best : (other : Tree) → SomeAccepts g text other → Better other t → ⊥

-- no run comes to a node that is too deep or accepts a tree, some run is stuck at the place, and
-- none at a greater one
pub record IsLastStop (g : FlatGrammar) (text : Bytes) (place : ℕ) : Type 0 where
  pub shallow : SomeIsTooDeep g text → ⊥
  pub none : (t : Tree) → SomeAccepts g text t → ⊥
  pub stops : SomeStopsAt g text place
  pub greatest : (other : ℕ) → SomeStopsAt g text other → other ≤ place

-- What a text comes to: too deep where some run does; else the accepted tree than which none is
-- better; else stuck at the greatest place at which some run is. Of the tree, extents, states and
-- marks are free.
abbrev pub Fresh : FlatGrammar → Bytes → FreshOutcome → Type 0
Fresh g text deep_outcome = SomeIsTooDeep g text
Fresh g text (tree_outcome t) = IsBestTree g text (bare t)
Fresh g text (stuck_outcome place) = IsLastStop g text place

-- ---- one outcome

-- the outcomes are of one kind, with one place, or with trees of one total and one code
abbrev pub AreOneOutcome : FreshOutcome → FreshOutcome → Type 0
AreOneOutcome deep_outcome o = o ≡ deep_outcome
AreOneOutcome (tree_outcome t) (tree_outcome u) =
    (total_of (bare t) ≡ total_of (bare u)) × (code_of (bare t) ≡ code_of (bare u))
AreOneOutcome (tree_outcome t) deep_outcome = ⊥
AreOneOutcome (tree_outcome t) (stuck_outcome q) = ⊥
AreOneOutcome (stuck_outcome p) o = o ≡ stuck_outcome p
