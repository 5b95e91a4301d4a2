-- The settled nodes of a marked tree are nodes of the old one that no part of the edit met.
use Rattle.std.proofs.Common.{◌≡◌, ℕ, suc, ◌+◌, ◌-◌, inl, inr, sym, ap, subst, ◌∙◌, refl, arith, true, false, true≢false, List, [], ◌∷◌, length}
use Rattle.ts_text.specs.declared.edit.Edit.{Edit}
use Rattle.spec_trees.specs.declared.tree.Tree.{Tree}
use Rattle.spec_trees.specs.declared.tree.Tree.TheOpen.{Tree-F}
use Rattle.spec_trees.specs.declared.tree.Tree.TheViews.{out-roll-Tree}
use Rattle.spec_trees.specs.Trees.{children_of, pad_of, size_of, span_of, all_spans, node_extent, is_settled}
use Rattle.spec_trees.specs.Inside as nodes
use Rattle.spec_reuse.specs.Places.{IsIn, here, inside, later, IsInTree, IsWhole, lead_of}
use Rattle.spec_reuse.specs.Changes.{is_met, moved, IsEditOver}
use Rattle.spec_reuse.specs.Marked.{marked_below, all_marked, marked}
use Rattle.ts_marks.specs.Parts.{AreOrdered}
use Rattle.ts_marks.specs.Kept.{WasClear}
use Rattle.ts_marks.proofs.MovedLemmas.{moved_rises}
use Rattle.ts_marks.proofs.MarkedLemmas.{stays, span_is, spans_are, settled_is, children_are, whole_children, AllWhole}
use Rattle.ts_marks.proofs.ElementLemmas.{both_true}
use Rattle.ts_marks.proofs.RemadeLemmas.{edit_ordered}

-- where a settled node among marked ones was before
pub record WasIn (e : Edit) (ts : List Tree) (place : ℕ) (u : Tree) (at : ℕ) : Type 0 where
  pub was : ℕ
  pub there : IsIn ts place u was
  pub clear : is_met e.parts was (node_extent u) ≡ false
  pub moves : at ≡ moved e was

first_was : (e : Edit) (t : Tree) (ts : List Tree) (place : ℕ) (u : Tree) (at : ℕ) → AreOrdered 0 e.parts → IsWhole t → u ≡ marked_below e t place → at ≡ moved e place → is_settled u ≡ true → WasIn e (t ∷ ts) place u at
first_was e t ts place u at o w is from s =
    let b = both_true (is_settled t) (is_met e.parts place (node_extent t)) (sym (settled_is e t place) ∙ sym (ap is_settled is) ∙ s) in
    let same : t ≡ u = sym (is ∙ stays e t place o w b.0 b.1) in
    record {
      was = place;
      there = subst (λ (x : Tree). IsIn (t ∷ ts) place x place) same (here t ts place);
      clear = subst (λ (x : Tree). is_met e.parts place (node_extent x) ≡ false) same b.1;
      moves = from;
    }

tail_whole : (t : Tree) (ts : List Tree) → AllWhole (t ∷ ts) → AllWhole ts
tail_whole t ts w k c i = w (suc k) c i

kept_in : (e : Edit) (xs : List Tree) (from : ℕ) (u : Tree) (at : ℕ) → IsIn xs from u at → AreOrdered 0 e.parts → (ts : List Tree) (place : ℕ) → AllWhole ts → xs ≡ all_marked e ts place → from ≡ moved e place → is_settled u ≡ true → WasIn e ts place u at
kept_in e _ from _ _ (here d ds _) o [] place w is f s = let n : length (d ∷ ds) ≡ 0 = ap (λ (ys : List Tree). length ys) is in absurd (omega (arith, n))
kept_in e _ from _ _ (here d ds _) o (t ∷ ts) place w is f s =
    let g : d ≡ marked_below e t place = cc in
    first_was e t ts place d from o (w 0 t refl) g f s
kept_in e _ from u at (inside d ds _ _ _ h) o [] place w is f s = let n : length (d ∷ ds) ≡ 0 = ap (λ (ys : List Tree). length ys) is in absurd (omega (arith, n))
kept_in e _ from u at (inside d ds _ _ _ h) o (t ∷ ts) place w is f s =
    let g : d ≡ marked_below e t place = cc in
    let r = kept_in e (children_of d) from u at h o (children_of t) place (whole_children t (w 0 t refl)) (ap (λ (x : Tree). children_of x) g ∙ children_are e t place) f s in
    record { was = r.was; there = inside t ts place u r.was r.there; clear = r.clear; moves = r.moves }
kept_in e _ from u at (later d ds _ _ _ h) o [] place w is f s = let n : length (d ∷ ds) ≡ 0 = ap (λ (ys : List Tree). length ys) is in absurd (omega (arith, n))
kept_in e _ from u at (later d ds _ _ _ h) o (t ∷ ts) place w is f s =
    let g : d ≡ marked_below e t place = cc in
    let i : ds ≡ all_marked e ts (place + span_of t) = cc in
    let q : span_of d ≡ moved e (place + span_of t) - moved e place = ap span_of g ∙ span_is e t place in
    let k : from + span_of d ≡ moved e (place + span_of t) = omega (arith, f, q, moved_rises 0 e.parts place (place + span_of t) (omega arith)) in
    let r = kept_in e ds (from + span_of d) u at h o ts (place + span_of t) (tail_whole t ts w) i k s in
    record { was = r.was; there = later t ts place u r.was r.there; clear = r.clear; moves = r.moves }

pub kept : (e : Edit) (t u : Tree) (at : ℕ) → IsWhole t → IsEditOver (span_of t) e → IsInTree (marked e t) u at → is_settled u ≡ true → WasClear e t u at
kept e t u at w over (inl h) s =
    let loose : is_settled (marked e t) ≡ false = ap (λ (x : Tree-F Tree). x.settled) (out-roll-Tree _) in
    absurd (true≢false (sym s ∙ ap is_settled h.0 ∙ loose))
kept e t u at w over (inr h) s =
    let o : AreOrdered 0 e.parts = edit_ordered (span_of t) e over in
    let c : children_of (marked e t) ≡ all_marked e (children_of t) (lead_of t) = ap (λ (x : Tree-F Tree). x.children) (out-roll-Tree _) in
    let p : pad_of (marked e t) ≡ moved e (pad_of t) = ap (λ (x : Tree-F Tree). x.pad) (out-roll-Tree _) in
    let z : size_of (marked e t) ≡ moved e (span_of t) - moved e (pad_of t) = ap (λ (x : Tree-F Tree). x.size) (out-roll-Tree _) in
    let a : all_spans (children_of (marked e t)) ≡ moved e (lead_of t + all_spans (children_of t)) - moved e (lead_of t) = ap all_spans c ∙ spans_are e (children_of t) (lead_of t) in
    let whole : lead_of t + all_spans (children_of t) ≡ span_of t = omega (arith, (w t nodes.itself).sized.within) in
    let m : moved e (lead_of t + all_spans (children_of t)) ≡ moved e (span_of t) = ap (moved e) whole in
    let l : lead_of (marked e t) ≡ moved e (lead_of t) = omega (
      arith,
      p,
      z,
      a,
      m,
      moved_rises 0 e.parts (pad_of t) (span_of t) (omega arith),
      moved_rises 0 e.parts (lead_of t) (span_of t) (omega (arith, whole)),
    ) in
    let r = kept_in e (children_of (marked e t)) (lead_of (marked e t)) u at h o (children_of t) (lead_of t) (whole_children t w) c l s in
    record { place = r.was; there = r.there; clear = r.clear; moves = r.moves }
