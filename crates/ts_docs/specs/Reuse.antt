-- The tree that a version keeps, whose nodes the next version may take over.
use Rattle.std.specs.Prelude.{◌≡◌, ℕ, true, Option, Some, None}
use Rattle.ts_base.specs.Bytes.{Bytes}
use Rattle.spec_trees.specs.declared.tree.Tree.{Tree}
use Rattle.spec_trees.specs.Trees.{children_of, is_settled}
use Rattle.spec_trees.specs.Choice.{IsInForm}
use Rattle.spec_runs.specs.Outcomes.{Fresh, deep_outcome, tree_outcome, stuck_outcome}
use Rattle.spec_reuse.specs.Places.{IsIn, IsInTree, lead_of}
use Rattle.spec_forced.specs.Sound.{States, HasState, IsSound}
use Rattle.ts_table.specs.declared.view.ParseTable.{ParseTable}
use Rattle.ts_steps.specs.Heads.{AreStatesOf, IsOwnWithin}
use Rattle.ts_glr.specs.declared.outcome.Outcome.{Outcome}
use Rattle.ts_glr.specs.declared.outcome.Outcome.TheVariants.{Accepted, Stuck, Deep}
use Rattle.ts_glr.specs.Outcomes.{value_of_outcome, IsTreeOf}
use Rattle.ts_docs.specs.declared.parsing.Parsed.{Parsed}

-- The nodes of the tree may be taken over into that of a text: whatever lists of symbols lead to
-- the states of the table, it is sound for the text, so that each settled node in it that has a
-- state stands at its place; and a parser of the grammar made these nodes, and all settled ones
-- below the root.
pub record IsReusable (t : ParseTable) (text : Bytes) (tree : Tree) : Type 0 where
  pub sound : (states : States) → AreStatesOf t states → IsSound t.grammar states text tree
  pub own : (u : Tree) (at : ℕ) → IsInTree tree u at → is_settled u ≡ true → HasState u
      → IsOwnWithin t.grammar u
  pub inner : (u : Tree) (at : ℕ) → IsIn (children_of tree) (lead_of tree) u at
      → is_settled u ≡ true → IsOwnWithin t.grammar u

-- where there is a tree, its nodes may be taken over
abbrev pub IsReusableIfAny : ParseTable → Bytes → Option Tree → Type 0
IsReusableIfAny t text None = Unit {0}
IsReusableIfAny t text (Some tree) = IsReusable t text tree

-- ---- under way. It serves private clauses and proofs alone.

-- what a parse with offers comes to is the fresh outcome, and its tree may be kept
abbrev pub IsReparsed : ParseTable → Bytes → Outcome → Type 0
IsReparsed t text (Accepted u) =
    Fresh t.grammar text (tree_outcome u) × IsInForm t.grammar u × IsReusable t text u
IsReparsed t text (Stuck place) = Fresh t.grammar text (stuck_outcome place)
IsReparsed t text Deep = Fresh t.grammar text deep_outcome

-- the text comes to this outcome, and this tree may be kept for it
pub record IsParsed (t : ParseTable) (text : Bytes) (p : Parsed) : Type 0 where
  pub fresh : Fresh t.grammar text (value_of_outcome p.outcome)
  pub form : IsTreeOf t.grammar p.outcome
  pub kept : IsReusableIfAny t text p.kept.marked
