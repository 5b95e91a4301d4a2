use Rattle.std.proofs.Common.{◌≡◌, ◌+◌, ◌-◌, ◌≤◌, ◌∙◌, ℕ, ap, sym, subst, arith, List}
use Rattle.std.proofs.lemmas.Result.{IfOk-weaker}
use Rattle.ts_text.specs.declared.edit.Edit.{Edit}
use Rattle.spec_trees.specs.declared.tree.Tree.{Tree}
use Rattle.spec_trees.specs.Trees.{children_of, elements_of, pad_of, span_of, all_spans}
use Rattle.spec_trees.specs.Made.{most_span, loosened, remade, replaced}
use Rattle.spec_reuse.specs.Places.{lead_of}
use Rattle.spec_reuse.specs.Changes.{moved}
use Rattle.spec_reuse.specs.Marked.{all_marked, marked_elements, marked}
use Rattle.ts_marks.proofs.MovedLemmas.{moved_rises}
use Rattle.ts_marks.proofs.RemadeLemmas.{root_is, root_can, moved_short, edit_ordered, edit_short}
use Rattle.ts_marks.proofs.marking.mark.Goals as goal

pub start-start-requires : goal.start-start-requires
start-start-requires c = edit_ordered (span_of c.args.tree.now) c.args.edit.now c.requires

pub moved-own-requires-clause-short : goal.moved-own-requires-clause-short
moved-own-requires-clause-short c =
    subst (λ (e : Edit). moved e c.pad.result ≤ most_span) (sym c.start-start.ensures.edit)
    (moved_short c.args.edit.now c.pad.result (span_of c.args.tree.now) (omega (arith, c.pad.ensures)) (edit_short (span_of c.args.tree.now) c.args.edit.now c.requires))

pub moved-end-requires-clause-short : goal.moved-end-requires-clause-short
moved-end-requires-clause-short c =
    subst (λ (e : Edit). moved e c.span-whole.result ≤ most_span) (sym c.start-start.ensures.edit)
    (moved_short c.args.edit.now c.span-whole.result (span_of c.args.tree.now) (omega (arith, c.span-whole.ensures.span)) (edit_short (span_of c.args.tree.now) c.args.edit.now c.requires))

pub reached_in-requires-clause-moved : goal.reached_in-requires-clause-moved
reached_in-requires-clause-moved c =
    subst (λ (e : Edit). moved e (c.lead-first.result + all_spans (children_of c.args.tree.now)) ≤ most_span) (sym c.start-start.ensures.edit)
    (moved_short c.args.edit.now (c.lead-first.result + all_spans (children_of c.args.tree.now)) (span_of c.args.tree.now) (omega (arith, c.lead-first.ensures, c.span-whole.ensures.node.sized.within)) (edit_short (span_of c.args.tree.now) c.args.edit.now c.requires))

pub overflow_sub-end : goal.overflow_sub-end
overflow_sub-end c =
    let o : c.moved-own.result ≡ moved c.args.edit.now (pad_of c.args.tree.now) = c.moved-own.ensures ∙ ap (λ (e : Edit). moved e c.pad.result) c.start-start.ensures.edit ∙ ap (λ (n : ℕ). moved c.args.edit.now n) c.pad.ensures in
    let e : c.moved-end.result ≡ moved c.args.edit.now (span_of c.args.tree.now) = c.moved-end.ensures ∙ ap (λ (e : Edit). moved e c.span-whole.result) c.start-start.ensures.edit ∙ ap (λ (n : ℕ). moved c.args.edit.now n) c.span-whole.ensures.span in
    omega (arith, o, e, moved_rises 0 c.args.edit.now.parts (pad_of c.args.tree.now) (span_of c.args.tree.now) (omega arith))

pub remake-requires-clause-node : goal.remake-requires-clause-node
remake-requires-clause-node c =
    let o : c.moved-own.result ≡ moved c.args.edit.now (pad_of c.args.tree.now) = c.moved-own.ensures ∙ ap (λ (e : Edit). moved e c.pad.result) c.start-start.ensures.edit ∙ ap (λ (n : ℕ). moved c.args.edit.now n) c.pad.ensures in
    let e : c.moved-end.result ≡ moved c.args.edit.now (span_of c.args.tree.now) = c.moved-end.ensures ∙ ap (λ (e : Edit). moved e c.span-whole.result) c.start-start.ensures.edit ∙ ap (λ (n : ℕ). moved c.args.edit.now n) c.span-whole.ensures.span in
    let d : replaced c.as_slice.result.now (children_of c.args.tree.now) ≡ all_marked c.args.edit.now (children_of c.args.tree.now) (lead_of c.args.tree.now) =
    ap (λ (cs : List (ℕ × Tree)). replaced cs (children_of c.args.tree.now)) c.as_slice.ensures.value ∙ c.in_ok-reached.ensures.changes
    ∙ ap (λ (e : Edit). all_marked e (children_of c.args.tree.now) c.lead-first.result) c.start-start.ensures.edit ∙ ap (λ (n : ℕ). all_marked c.args.edit.now (children_of c.args.tree.now) n) c.lead-first.ensures in
    let f : loosened c.as_slice-2.result.now (elements_of c.args.tree.now) ≡ marked_elements c.args.edit.now (elements_of c.args.tree.now) (children_of c.args.tree.now) (lead_of c.args.tree.now) =
    ap (λ (ks : List ℕ). loosened ks (elements_of c.args.tree.now)) c.as_slice-2.ensures.value ∙ c.in_ok-reached.ensures.loose
    ∙ ap (λ (x : Edit). marked_elements x (elements_of c.args.tree.now) (children_of c.args.tree.now) c.lead-first.result) c.start-start.ensures.edit
    ∙ ap (λ (n : ℕ). marked_elements c.args.edit.now (elements_of c.args.tree.now) (children_of c.args.tree.now) n) c.lead-first.ensures in
    c.remade_is_node.ensures c.args.tree.now c.moved-own.result (c.moved-end.result - c.moved-own.result) c.as_slice.result.now c.as_slice-2.result.now
    (root_can c.args.edit.now c.args.tree.now c.moved-own.result c.moved-end.result c.as_slice.result.now c.as_slice-2.result.now (edit_ordered (span_of c.args.tree.now) c.args.edit.now c.requires) c.span-whole.ensures.whole o e d f (edit_short (span_of c.args.tree.now) c.args.edit.now c.requires))

pub returns : goal.returns
returns c =
    let o : c.moved-own.result ≡ moved c.args.edit.now (pad_of c.args.tree.now) = c.moved-own.ensures ∙ ap (λ (e : Edit). moved e c.pad.result) c.start-start.ensures.edit ∙ ap (λ (n : ℕ). moved c.args.edit.now n) c.pad.ensures in
    let e : c.moved-end.result ≡ moved c.args.edit.now (span_of c.args.tree.now) = c.moved-end.ensures ∙ ap (λ (e : Edit). moved e c.span-whole.result) c.start-start.ensures.edit ∙ ap (λ (n : ℕ). moved c.args.edit.now n) c.span-whole.ensures.span in
    let d : replaced c.as_slice.result.now (children_of c.args.tree.now) ≡ all_marked c.args.edit.now (children_of c.args.tree.now) (lead_of c.args.tree.now) =
    ap (λ (cs : List (ℕ × Tree)). replaced cs (children_of c.args.tree.now)) c.as_slice.ensures.value ∙ c.in_ok-reached.ensures.changes
    ∙ ap (λ (e : Edit). all_marked e (children_of c.args.tree.now) c.lead-first.result) c.start-start.ensures.edit ∙ ap (λ (n : ℕ). all_marked c.args.edit.now (children_of c.args.tree.now) n) c.lead-first.ensures in
    let f : loosened c.as_slice-2.result.now (elements_of c.args.tree.now) ≡ marked_elements c.args.edit.now (elements_of c.args.tree.now) (children_of c.args.tree.now) (lead_of c.args.tree.now) =
    ap (λ (ks : List ℕ). loosened ks (elements_of c.args.tree.now)) c.as_slice-2.ensures.value ∙ c.in_ok-reached.ensures.loose
    ∙ ap (λ (x : Edit). marked_elements x (elements_of c.args.tree.now) (children_of c.args.tree.now) c.lead-first.result) c.start-start.ensures.edit
    ∙ ap (λ (n : ℕ). marked_elements c.args.edit.now (elements_of c.args.tree.now) (children_of c.args.tree.now) n) c.lead-first.ensures in
    let is : remade c.args.tree.now c.moved-own.result (c.moved-end.result - c.moved-own.result) c.as_slice.result.now c.as_slice-2.result.now ≡ marked c.args.edit.now c.args.tree.now =
    root_is c.args.edit.now c.args.tree.now c.moved-own.result c.moved-end.result c.as_slice.result.now c.as_slice-2.result.now o e d f in
    IfOk-weaker c.remake.result _ _ (λ x h. h ∙ is) c.remake.ensures
