-- Trees that are kept: that of a parse may be, and a marked one may be for the edited text.
use Rattle.std.proofs.Common.{◌≡◌, ◌∙◌, sym, ap, refl, ℕ, suc, ◌+◌, inl, inr, true, List, [], ◌∷◌, slice_get, Option, Some, None}
use Rattle.ts_base.specs.Bytes.{Bytes}
use Rattle.ts_core.specs.declared.flat.FlatGrammar.{FlatGrammar}
use Rattle.ts_text.specs.declared.edit.Edit.{Edit}
use Rattle.ts_text.specs.Edit.{InRange, Fits, apply_of}
use Rattle.ts_text.specs.Text.{IsText}
use Rattle.spec_trees.specs.declared.tree.Tree.{Tree}
use Rattle.spec_trees.specs.Trees.{children_of, is_settled, state_of, span_of}
use Rattle.spec_trees.specs.Inside.{IsNodeIn, itself, inside}
use Rattle.spec_reuse.specs.Places as places
use Rattle.spec_reuse.specs.Places.{IsIn, here, later, IsInTree, IsWhole, lead_of}
use Rattle.spec_reuse.specs.Changes.{IsEditOver}
use Rattle.spec_reuse.specs.Marked.{marked}
use Rattle.spec_reuse.specs.Offered.{IsTopmost}
use Rattle.spec_forced.specs.Sound.{States, HasState, IsSound}
use Rattle.ts_marks.specs.Kept.{WasClear}
use Rattle.ts_table.specs.declared.view.ParseTable.{ParseTable}
use Rattle.ts_steps.specs.Good.{EachTree}
use Rattle.spec_runs.specs.Outcomes.{Fresh}
use Rattle.ts_steps.specs.Heads.{AreStatesOf, IsOwnWithin}
use Rattle.ts_steps.specs.Reparsing.{IsOffered}
use Rattle.ts_glr.specs.declared.outcome.Outcome.{Outcome}
use Rattle.ts_glr.specs.declared.outcome.Outcome.TheVariants.{Accepted, Stuck, Deep}
use Rattle.ts_glr.specs.Outcomes.{value_of_outcome, IsTreeOf, IsOwnOutcome, IsSoundOutcome}
use Rattle.ts_docs.specs.Reuse.{IsReusable, IsReparsed}

-- ---- nodes in nodes

-- a node in a child is one in its parent
in_parent : (t c u : Tree) (k : ℕ) → slice_get (children_of t) k ≡ Some c → IsNodeIn c u → IsNodeIn t u
in_parent t c _ k at itself = inside t c k itself at
in_parent t c _ k at (inside u v j there child) = inside u v j (in_parent t c u k at there) child

module _ (g : FlatGrammar) where
  each_of : (ts : List Tree) → ((k : ℕ) (c : Tree) → slice_get ts k ≡ Some c → IsOwnWithin g c) → EachTree (IsOwnWithin g) ts
  each_of [] f = tt
  each_of (t ∷ ts) f = (f 0 t refl, each_of ts (λ k c e. f (suc k) c e))

  each_child : (t : Tree) → IsOwnWithin g t → EachTree (IsOwnWithin g) (children_of t)
  each_child t own = each_of (children_of t) (λ k c at u there settled. own u (in_parent t c u k at there) settled)

  own_in : (ts : List Tree) (place : ℕ) (u : Tree) (at : ℕ) → IsIn ts place u at → EachTree (IsOwnWithin g) ts → IsOwnWithin g u
  own_in _ _ _ _ (here t ts place) each = each.0
  own_in _ _ _ _ (places.inside t ts place u at there) each = own_in (children_of t) place u at there (each_child t each.0)
  own_in _ _ _ _ (later t ts place u at there) each = own_in ts (place + span_of t) u at there each.1

-- ---- the tree of a parse

stateless : (t u : Tree) → state_of t ≡ None → u ≡ t → HasState u → ⊥
stateless t u none same has =
    absurd (let q : ◌≡◌ {A = Option ℕ} None (Some has.0) = sym none ∙ (sym (ap state_of same) ∙ has.1) in cc)

kept_root : (t : ParseTable) (text : Bytes) (root : Tree) → EachTree (IsOwnWithin t.grammar) (children_of root) → state_of root ≡ None
    → ((states : States) → AreStatesOf t states → IsSound t.grammar states text root) → IsReusable t text root
kept_root t text root each none sound = record {
  sound = sound;
  own = own;
  inner = λ u at there settled. own_in t.grammar (children_of root) (lead_of root) u at there each;
}
  where
    own : (u : Tree) (at : ℕ) → IsInTree root u at → is_settled u ≡ true → HasState u → IsOwnWithin t.grammar u
    own u at (inl same) settled has = absurd (stateless root u none same.0 has)
    own u at (inr there) settled has = own_in t.grammar (children_of root) (lead_of root) u at there each

pub reparsed_is : (t : ParseTable) (text : Bytes) (r : Outcome) (states : States) → AreStatesOf t states → IsTreeOf t.grammar r → IsOwnOutcome t r
    → ((s : States) → AreStatesOf t s → Fresh t.grammar text (value_of_outcome r) × IsSoundOutcome t s text r) → IsReparsed t text r
reparsed_is t text (Accepted u) states are form own f = ((f states are).0, form, kept_root t text u own.0 own.1 (λ s a. (f s a).1))
reparsed_is t text (Stuck place) states are form own f = (f states are).0
reparsed_is t text Deep states are form own f = (f states are).0

-- ---- what is offered

pub offered : (t : ParseTable) (text : Bytes) (tree u : Tree) (place state : ℕ) → IsReusable t text tree → IsTopmost tree place state u → IsOffered t.grammar u
offered t text tree u place state kept top = record {
  settled = top.fit.settled;
  own = kept.own u place top.there top.fit.settled (state, top.fit.below);
  some = top.fit.some;
}

-- ---- the marked tree

pub kept_marked : ((g : FlatGrammar) (states : States) (text : Bytes) (edit : Edit) (tree : Tree) → IsText text → InRange text edit → Fits text edit → IsWhole tree
    → IsSound g states text tree → IsSound g states (apply_of text edit) (marked edit tree))
    → ((edit : Edit) (t u : Tree) (at : ℕ) → IsWhole t → IsEditOver (span_of t) edit → IsInTree (marked edit t) u at → is_settled u ≡ true → WasClear edit t u at)
    → (t : ParseTable) (text : Bytes) (edit : Edit) (tree : Tree) → IsText text → InRange text edit → Fits text edit → IsWhole tree → IsEditOver (span_of tree) edit
    → IsReusable t text tree → IsReusable t (apply_of text edit) (marked edit tree)
kept_marked sound clear t text edit tree is_text range fits whole over kept = record {
  sound = λ states are. sound t.grammar states text edit tree is_text range fits whole (kept.sound states are);
  own = λ u at there settled has.
      let w = clear edit tree u at whole over there settled in
      kept.own u w.place (inr w.there) settled has;
  inner = λ u at there settled.
      let w = clear edit tree u at whole over (inr there) settled in
      kept.inner u w.place w.there settled;
}
