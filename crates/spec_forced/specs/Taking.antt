-- A parser that takes nodes over: where it is offered one it pushes it whole, and else it does all
-- steps.
use Rattle.std.specs.Prelude.{◌≡◌, ◌<◌, List, ◌∷◌, drop, Option, Some, None}
use Rattle.ts_base.specs.Bytes.{Bytes}
use Rattle.ts_core.specs.declared.flat.FlatGrammar.{FlatGrammar}
use Rattle.ts_core.specs.declared.symbol.Symbol.{Symbol}
use Rattle.spec_trees.specs.declared.tree.Tree.{Tree}
use Rattle.spec_trees.specs.Trees.{node_extent, span_of, bare}
use Rattle.spec_runs.specs.Configurations.{Configuration, starting, stack_symbols, pushed, AreValidTokens}
use Rattle.spec_runs.specs.Runs.{StepsOn, ComesTooDeep, AcceptsTree, StopsAt}
use Rattle.spec_runs.specs.Outcomes.{FreshOutcome}
use Rattle.spec_forced.specs.Forced.{Stands}
use Rattle.spec_forced.specs.OnlyRuns.{FreshBy}

-- at each configuration the node that is taken over there, or none
abbrev pub Taking : Type 0
Taking = Configuration → Option Tree

-- a run of such a parser from one configuration to another
pub data TakingRun (g : FlatGrammar) (text : Bytes) (takes : Taking)
    : Configuration → Configuration → Type 0 where
  taking_here : (c : Configuration) → TakingRun g text takes c c
  taking_step : (c d e : Configuration) → takes c ≡ None → StepsOn g text c d
      → TakingRun g text takes d e → TakingRun g text takes c e
  taking_node : (c e : Configuration) (t : Tree) → takes c ≡ Some t
      → TakingRun g text takes (pushed c (bare t)) e → TakingRun g text takes c e

-- some run of the text comes to the configuration, and takes nothing over there
abbrev pub IsMet : FlatGrammar → Bytes → Taking → Configuration → Type 0
IsMet g text takes e = TakingRun g text takes starting e × (takes e ≡ None)

-- what a text comes to for such a parser
abbrev pub FreshTaking : FlatGrammar → Bytes → Taking → FreshOutcome → Type 0
FreshTaking g text takes = FreshBy
    ((e : Configuration) × IsMet g text takes e × ComesTooDeep g text e)
    (λ t. (e : Configuration) × IsMet g text takes e × AcceptsTree g text e t)
    (λ place. (e : Configuration) × IsMet g text takes e × StopsAt g text e place)

-- the node has bytes, it stands at the configuration, and the valid tokens after it can be listed
pub record MayTake (g : FlatGrammar) (text : Bytes) (c : Configuration) (t : Tree) : Type 0 where
  pub some : 0 < span_of t
  pub stands : Stands g (stack_symbols c.stack) (drop c.place text) t (node_extent t)
  pub valid : List Symbol
  pub are_valid : AreValidTokens g (stack_symbols (bare t ∷ c.stack)) valid

-- what is taken over stands wherever a run of the parser comes
abbrev pub TakesRightly : FlatGrammar → Bytes → Taking → Type 0
TakesRightly g text takes =
    (c : Configuration) (t : Tree) → TakingRun g text takes starting c → takes c ≡ Some t
    → MayTake g text c t
