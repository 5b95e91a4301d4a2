-- Trees that stay sound under edits.
use Rattle.std.proofs.Common.{◌≡◌, ◌∙◌, sym, subst, refl, ℕ, ◌≤◌, arith, true, true≢false, List, length}
use Rattle.ts_base.specs.Bytes.{Bytes}
use Rattle.ts_core.specs.declared.flat.FlatGrammar.{FlatGrammar}
use Rattle.ts_text.specs.declared.edit.Edit.{Edit}
use Rattle.ts_text.specs.Edit.{InRange, Fits, apply_of}
use Rattle.ts_text.specs.Text.{IsText}
use Rattle.spec_trees.specs.declared.tree.Tree.{Tree}
use Rattle.spec_trees.specs.Trees.{children_of, is_settled, span_of, all_spans}
use Rattle.spec_trees.specs.Inside as nodes
use Rattle.spec_reuse.specs.Places.{IsWhole, lead_of}
use Rattle.spec_reuse.specs.Changes.{moved, IsEditOver}
use Rattle.spec_reuse.specs.Marked.{marked}
use Rattle.spec_forced.specs.Sound.{States, AllSound, IsSound}
use Rattle.ts_marks.specs.Parts.{AreOrdered}
use Rattle.ts_marks.proofs.MarkedLemmas.{whole_children}
use Rattle.ts_marks.proofs.RemadeLemmas.{edit_ordered}
use Rattle.spec_marked.specs.Edited.{EditsLeave, no_edit, one_edit_more}
use Rattle.spec_marked.specs.Laws.{MarkedLaws}
use Rattle.spec_marked.proofs.MovedLemmas.{moved_within}
use Rattle.spec_marked.proofs.LayerLemmas.{root_children, root_span, root_unsettled}
use Rattle.spec_marked.proofs.PlaceLemmas.{all_moved, lead_moved}
use Rattle.spec_marked.proofs.WholeLemmas.{stays_whole}

-- ---- one edit

-- the edit is one of this text, and the edited text is not too long
pub record IsEditOf (text : Bytes) (e : Edit) : Type 0 where
  pub is_text : IsText text
  pub in_range : InRange text e
  pub fits : Fits text e

pub may_mark : (text : Bytes) (e : Edit) → IsEditOf text e → (t : Tree) → span_of t ≤ length text → IsEditOver (span_of t) e
may_mark text e own t short = record { text = text; is_text = own.is_text; long = short; in_range = own.in_range; fits = own.fits }

still_within : (text : Bytes) (e : Edit) (t : Tree) → InRange text e → span_of t ≤ length text → span_of (marked e t) ≤ length (apply_of text e)
still_within text e t range short = omega (arith, root_span e t, moved_within text e (span_of t) range short)

pub stays_sound : MarkedLaws → (g : FlatGrammar) (states : States) (text : Bytes) (e : Edit) → IsEditOf text e → (t : Tree) → IsWhole t → IsSound g states text t → IsSound g states (apply_of text e) (marked e t)
stays_sound laws g states text e own t w s =
    let inside : all_spans (children_of t) ≤ span_of t = (w t nodes.itself).sized.within in
    let ordered : AreOrdered 0 e.parts = edit_ordered (span_of t) e (may_mark text e own t s.short) in
    record {
      short = still_within text e t own.in_range s.short;
      begins = λ settled. absurd (true≢false (sym settled ∙ root_unsettled e t));
      own = λ settled. absurd (true≢false (sym settled ∙ root_unsettled e t));
      inner = subst (λ (n : ℕ). AllSound g states (apply_of text e) (children_of (marked e t)) n) (sym (lead_moved e t inside))
          (subst (λ (l : List Tree). AllSound g states (apply_of text e) l (moved e (lead_of t))) (sym (root_children e t))
          (all_moved laws g states text e own.in_range ordered (children_of t) (lead_of t) (whole_children t w) s.inner));
    }

-- ---- edits one after another

-- what they leave is a text and a whole tree of it
pub record IsKept (after : Bytes) (left : Tree) : Type 0 where
  pub is_text : IsText after
  pub whole : IsWhole left
  pub short : span_of left ≤ length after

pub edits_text : MarkedLaws → (text : Bytes) (tree : Tree) (after : Bytes) (left : Tree) → EditsLeave text tree after left → IsText text → IsText after
edits_text laws text tree _ _ no_edit is = is
edits_text laws text tree _ _ (one_edit_more after left e h range texts fits) is =
    laws.edited_text after e (edits_text laws text tree after left h is) texts range fits

pub edits_keep : MarkedLaws → (text : Bytes) (tree : Tree) (after : Bytes) (left : Tree) → EditsLeave text tree after left → IsText text → IsWhole tree → span_of tree ≤ length text → IsKept after left
edits_keep laws text tree _ _ no_edit is w short = record { is_text = is; whole = w; short = short }
edits_keep laws text tree _ _ (one_edit_more after left e h range texts fits) is w short =
    let k = edits_keep laws text tree after left h is w short in
    record {
      is_text = laws.edited_text after e k.is_text texts range fits;
      whole = stays_whole laws e left k.whole (may_mark after e (record { is_text = k.is_text; in_range = range; fits = fits }) left k.short);
      short = still_within after e left range k.short;
    }

pub edits_sound : MarkedLaws → (g : FlatGrammar) (states : States) (text : Bytes) (tree : Tree) (after : Bytes) (left : Tree) → EditsLeave text tree after left → IsText text → IsWhole tree → IsSound g states text tree → IsSound g states after left
edits_sound laws g states text tree _ _ no_edit is w s = s
edits_sound laws g states text tree _ _ (one_edit_more after left e h range texts fits) is w s =
    let k = edits_keep laws text tree after left h is w s.short in
    stays_sound laws g states after e (record { is_text = k.is_text; in_range = range; fits = fits }) left k.whole (edits_sound laws g states text tree after left h is w s)

pub edits_settled : (text : Bytes) (tree : Tree) (after : Bytes) (left : Tree) → EditsLeave text tree after left → is_settled left ≡ true → (left ≡ tree) × (after ≡ text)
edits_settled text tree _ _ no_edit s = (refl, refl)
edits_settled text tree _ _ (one_edit_more after left e h range texts fits) s = absurd (true≢false (sym s ∙ root_unsettled e left))
