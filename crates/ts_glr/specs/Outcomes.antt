-- The outcome of a parse, as the definitions have it.
use Rattle.std.specs.Prelude.{◌≡◌, ℕ, Option, Some, None}
use Rattle.ts_base.specs.Bytes.{Bytes}
use Rattle.ts_core.specs.declared.flat.FlatGrammar.{FlatGrammar}
use Rattle.spec_trees.specs.declared.tree.Tree.{Tree}
use Rattle.spec_trees.specs.Trees.{children_of, state_of}
use Rattle.spec_trees.specs.Choice.{IsInForm}
use Rattle.spec_runs.specs.Outcomes.{FreshOutcome, deep_outcome, tree_outcome, stuck_outcome}
use Rattle.spec_forced.specs.Sound.{States, IsSound}
use Rattle.ts_table.specs.declared.view.ParseTable.{ParseTable}
use Rattle.ts_steps.specs.Good.{EachTree}
use Rattle.ts_steps.specs.Heads.{IsOwnWithin}
use Rattle.ts_glr.specs.declared.outcome.Outcome.{Outcome}
use Rattle.ts_glr.specs.declared.outcome.Outcome.TheVariants.{Accepted, Stuck, Deep}

-- the outcome, as the definitions have it
abbrev pub value_of_outcome : Outcome → FreshOutcome
value_of_outcome (Accepted t) = tree_outcome t
value_of_outcome (Stuck place) = stuck_outcome place
value_of_outcome Deep = deep_outcome

-- where the outcome is a tree, it is one of the grammar
abbrev pub IsTreeOf : FlatGrammar → Outcome → Type 0
IsTreeOf g (Accepted t) = IsInForm g t
IsTreeOf g (Stuck place) = Unit {0}
IsTreeOf g Deep = Unit {0}

-- where the outcome is a tree, its root has no state, and a parser of the grammar made its children
abbrev pub IsOwnOutcome : ParseTable → Outcome → Type 0
IsOwnOutcome t (Accepted u) =
    EachTree (IsOwnWithin t.grammar) (children_of u) × (state_of u ≡ None)
IsOwnOutcome t (Stuck place) = Unit {0}
IsOwnOutcome t Deep = Unit {0}

-- where the outcome is a tree, it is sound for the text
abbrev pub IsSoundOutcome : ParseTable → States → Bytes → Outcome → Type 0
IsSoundOutcome t states text (Accepted u) = IsSound t.grammar states text u
IsSoundOutcome t states text (Stuck place) = Unit {0}
IsSoundOutcome t states text Deep = Unit {0}

-- the outcome that the best tree and the greatest stuck place come to
abbrev pub EndsAs : Option Tree → Option ℕ → Outcome → Type 0
EndsAs (Some t) stuck out = out ≡ Accepted t
EndsAs None (Some q) out = out ≡ Stuck q
EndsAs None None out = ⊥
