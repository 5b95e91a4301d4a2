-- Runs on which no choice is made, and what all runs from a configuration come to.
use Rattle.std.specs.Prelude.{◌≡◌, ℕ, ◌≤◌, ◌↔◌}
use Rattle.ts_base.specs.Bytes.{Bytes}
use Rattle.ts_core.specs.declared.flat.FlatGrammar.{FlatGrammar}
use Rattle.spec_tables.specs.Actions.{Move}
use Rattle.spec_trees.specs.declared.tree.Tree.{Tree}
use Rattle.spec_trees.specs.Trees.{bare}
use Rattle.spec_trees.specs.Choice.{Better}
use Rattle.spec_runs.specs.Configurations.{Configuration}
use Rattle.spec_runs.specs.Runs.{CanMove, StepsOn, Run, ComesTooDeep, AcceptsTree, StopsAt}
use Rattle.spec_runs.specs.Outcomes.{FreshOutcome, deep_outcome, tree_outcome, stuck_outcome}

-- a step leads from the first configuration to the second and to no other, one move alone can be
-- done there, and no run ends there
pub record IsOnlyStep (g : FlatGrammar) (text : Bytes) (c d : Configuration) : Type 0 where
  pub step : StepsOn g text c d
  pub only : (e : Configuration) → StepsOn g text c e → e ≡ d
  pub one : (first second : Move) → CanMove g text c first → CanMove g text c second
      → first ≡ second
  pub shallow : ComesTooDeep g text c → ⊥
  pub unaccepted : (t : Tree) → AcceptsTree g text c t → ⊥
  pub unstuck : (place : ℕ) → StopsAt g text c place → ⊥

-- a run of such steps: none, or one and then a run
pub data OnlyRun (g : FlatGrammar) (text : Bytes) : Configuration → Configuration → Type 0 where
  only_here : (c : Configuration) → OnlyRun g text c c
  only_on : (c d e : Configuration) → IsOnlyStep g text c d → OnlyRun g text d e
      → OnlyRun g text c e

-- runs of such steps from both configurations meet
abbrev pub Meet : FlatGrammar → Bytes → Configuration → Configuration → Type 0
Meet g text c d = (e : Configuration) × OnlyRun g text c e × OnlyRun g text d e

-- two moves can be done there
pub record IsFork (g : FlatGrammar) (text : Bytes) (c : Configuration) : Type 0 where
  pub first : Move
  pub second : Move
  pub here : CanMove g text c first
  pub there : CanMove g text c second
  pub differ : first ≡ second → ⊥

-- ---- all runs from a configuration

-- some run from the configuration comes to a reduction whose node would be too deep
abbrev pub GoesTooDeep : FlatGrammar → Bytes → Configuration → Type 0
GoesTooDeep g text c = (e : Configuration) × Run g text c e × ComesTooDeep g text e

-- some run from the configuration accepts the tree
abbrev pub GoesToTree : FlatGrammar → Bytes → Configuration → Tree → Type 0
GoesToTree g text c t = (e : Configuration) × Run g text c e × AcceptsTree g text e t

-- some run from the configuration is stuck at the place
abbrev pub GoesToStop : FlatGrammar → Bytes → Configuration → ℕ → Type 0
GoesToStop g text c place = (e : Configuration) × Run g text c e × StopsAt g text e place

-- runs from both configurations end in the same ways
pub record EndAlike (g : FlatGrammar) (text : Bytes) (c d : Configuration) : Type 0 where
  pub deep : GoesTooDeep g text c ↔ GoesTooDeep g text d
  pub tree : (t : Tree) → GoesToTree g text c t ↔ GoesToTree g text d t
  pub stop : (place : ℕ) → GoesToStop g text c place ↔ GoesToStop g text d place

-- ---- outcomes

-- the runs in question are not too deep, some accepts the tree, and none a better one
pub record IsBestBy (Deep : Type 0) (Accepts : Tree → Type 0) (t : Tree) : Type 0 where
  pub shallow : Deep → ⊥
  pub accepted : Accepts t
  pub best : (other : Tree) → Accepts other → Better other t → ⊥

-- the runs in question are not too deep and accept no tree, some is stuck at the place, and none at
-- a greater one
pub record IsLastStopBy (Deep : Type 0) (Accepts : Tree → Type 0) (Stops : ℕ → Type 0)
    (place : ℕ) : Type 0 where
  pub shallow : Deep → ⊥
  pub none : (t : Tree) → Accepts t → ⊥
  pub stops : Stops place
  pub greatest : (other : ℕ) → Stops other → other ≤ place

-- what runs come to: whether one is too deep, which trees they accept, and where they are stuck
abbrev pub FreshBy : (Deep : Type 0) → (Tree → Type 0) → (ℕ → Type 0) → FreshOutcome → Type 0
FreshBy Deep Accepts Stops deep_outcome = Deep
FreshBy Deep Accepts Stops (tree_outcome t) = IsBestBy Deep Accepts (bare t)
FreshBy Deep Accepts Stops (stuck_outcome place) = IsLastStopBy Deep Accepts Stops place

-- What the runs from the configuration come to. From the start of the text it is the fresh outcome.
abbrev pub FreshFrom : FlatGrammar → Bytes → Configuration → FreshOutcome → Type 0
FreshFrom g text c = FreshBy (GoesTooDeep g text c) (GoesToTree g text c) (GoesToStop g text c)
