-- The outcome of a text, as its line tells it.
use Rattle.std.specs.Prelude.{◌≡◌, ◌≤◌, length}
use Rattle.ts_base.specs.Bytes.{Bytes}
use Rattle.ts_core.specs.declared.flat.FlatGrammar.{FlatGrammar}
use Rattle.spec_trees.specs.Trees.{span_of}
use Rattle.spec_trees.specs.Shown.{Visible}
use Rattle.spec_runs.specs.Outcomes.{FreshOutcome, deep_outcome, tree_outcome, stuck_outcome, Fresh}
use Rattle.spec_output.specs.Outcomes.{parse_line}
use Rattle.spec_output.specs.declared.outcome.ShownOutcome.{ShownOutcome}
use Rattle.spec_output.specs.declared.outcome.ShownOutcome.TheVariants.{Tree, Stuck, Deep}

-- where the outcome is a tree, it takes no more bytes than the text
abbrev pub TreeLiesIn : Bytes → FreshOutcome → Type 0
TreeLiesIn text (tree_outcome t) = span_of t ≤ length text
TreeLiesIn text (stuck_outcome place) = Unit {0}
TreeLiesIn text deep_outcome = Unit {0}

-- A tree is told by its visible nodes.
abbrev pub shown_outcome : FlatGrammar → Bytes → FreshOutcome → ShownOutcome
shown_outcome g text (tree_outcome t) = Tree (Visible g text t)
shown_outcome g text (stuck_outcome place) = Stuck place
shown_outcome g text deep_outcome = Deep

-- the line of the outcome that a text comes to, over all ways to read it
abbrev pub IsOutcomeLine : FlatGrammar → Bytes → Bytes → Type 0
IsOutcomeLine g text line =
    (o : FreshOutcome) × Fresh g text o × (line ≡ parse_line (shown_outcome g text o))
