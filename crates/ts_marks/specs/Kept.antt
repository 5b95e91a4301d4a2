-- Where a settled node of a marked tree was before the edit.
use Rattle.std.specs.Prelude.{◌≡◌, ℕ, false}
use Rattle.ts_text.specs.declared.edit.Edit.{Edit}
use Rattle.spec_trees.specs.declared.tree.Tree.{Tree}
use Rattle.spec_trees.specs.Trees.{node_extent, children_of}
use Rattle.spec_reuse.specs.Places.{IsIn, lead_of}
use Rattle.spec_reuse.specs.Changes.{is_met, moved}

-- The node was below the tree's root at a place that the edit moves to this one, and no part of the
-- edit meets what was examined for it.
pub record WasClear (edit : Edit) (t u : Tree) (at : ℕ) : Type 0 where
  pub place : ℕ
  pub there : IsIn (children_of t) (lead_of t) u place
  pub clear : is_met edit.parts place (node_extent u) ≡ false
  pub moves : at ≡ moved edit place
