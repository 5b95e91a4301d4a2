-- The laws of other crates that the laws here rest on.
use Rattle.std.specs.Prelude.{◌≡◌, ℕ, ◌+◌, ◌<◌, true, false, List, slice_get}
use Rattle.ts_base.specs.Bytes.{Bytes}
use Rattle.ts_core.specs.declared.flat.FlatGrammar.{FlatGrammar}
use Rattle.ts_text.specs.declared.edit.Edit.{Edit}
use Rattle.ts_text.specs.Edit.{InRange, HasTexts, Fits, apply_of}
use Rattle.ts_text.specs.Text.{IsText}
use Rattle.spec_lexing.specs.Seen.{Agree}
use Rattle.spec_trees.specs.declared.tree.Tree.{Tree}
use Rattle.spec_trees.specs.Trees.{is_settled, span_of}
use Rattle.spec_reuse.specs.Places.{IsInTree, IsWhole}
use Rattle.spec_reuse.specs.Changes.{is_met, moved, IsEditOver}
use Rattle.spec_reuse.specs.Marked.{marked}
use Rattle.spec_reuse.specs.Offered.{IsTopmost}
use Rattle.spec_forced.specs.Forced.{HaveSameItems, Stands}
use Rattle.spec_forced.specs.Sound.{States, IsSound, IsHonest}
use Rattle.spec_forced.specs.Behind.{StandsBehind}
use Rattle.ts_marks.specs.Kept.{WasClear}

-- what is taken from other crates: that clear nodes were there, that their bytes stay, that nodes
-- and elements stand again over the same bytes, that sound trees offer honestly, and that edits
-- leave texts
pub record MarkedLaws : Type 0 where
  pub was_clear : (edit : Edit) (t u : Tree) (at : ℕ) → IsWhole t → IsEditOver (span_of t) edit
      → IsInTree (marked edit t) u at → is_settled u ≡ true → WasClear edit t u at
  pub bytes_stay : (text : Bytes) (edit : Edit) (place extent k : ℕ) → InRange text edit
      → is_met edit.parts place extent ≡ false → k < extent
      → slice_get (apply_of text edit) (moved edit place + k) ≡ slice_get text (place + k)
  pub stands_again : (g : FlatGrammar) (read other : List ℕ) (rest text : Bytes) (t : Tree)
      (extent : ℕ)
      → HaveSameItems g read other → Agree extent rest text → Stands g read rest t extent
      → Stands g other text t extent
  pub honest : (g : FlatGrammar) (states : States) (text : Bytes) (tree t : Tree)
      (place state : ℕ)
      → IsSound g states text tree → IsTopmost tree place state t
      → IsHonest g states text place state t
  pub behind_again : (g : FlatGrammar) (symbol : ℕ) (read other : List ℕ) (rest text : Bytes)
      (number : ℕ) (children : List Tree) (extent : ℕ)
      → HaveSameItems g read other → Agree extent rest text
      → StandsBehind g symbol read rest number children extent
      → StandsBehind g symbol other text number children extent
  pub edited_text : (text : Bytes) (edit : Edit) → IsText text → HasTexts edit
      → InRange text edit → Fits text edit → IsText (apply_of text edit)
