-- What edits leave of a text and of its tree while no text between them is parsed.
use Rattle.ts_base.specs.Bytes.{Bytes}
use Rattle.ts_text.specs.declared.edit.Edit.{Edit}
use Rattle.ts_text.specs.Edit.{InRange, HasTexts, Fits, apply_of}
use Rattle.spec_trees.specs.declared.tree.Tree.{Tree}
use Rattle.spec_reuse.specs.Marked.{marked}

-- Edits one after another leave this text and this tree of the first ones. Each is an edit of the
-- text that those before it left, and that text's tree is marked for it.
pub data EditsLeave (text : Bytes) (tree : Tree) : Bytes → Tree → Type 0 where
  no_edit : EditsLeave text tree text tree
  one_edit_more : (after : Bytes) (left : Tree) (edit : Edit) → EditsLeave text tree after left
      → InRange after edit → HasTexts edit → Fits after edit
      → EditsLeave text tree (apply_of after edit) (marked edit left)
