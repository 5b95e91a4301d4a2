use Rattle.std.proofs.Common.{◌≡◌, ◌+◌, ◌-◌, ◌<◌, ◌≤◌, ◌∙◌, ℕ, ap, sym, subst, refl, inl, arith, List, [], length, take, drop, All}
use Rattle.std.proofs.lemmas.List.{take_all}
use Rattle.std.proofs.lemmas.List.Elements.{All-nil}
use Rattle.std.proofs.lemmas.Result.{IfOk-weaker}
use Rattle.ts_text.specs.declared.edit.Edit.{Edit}
use Rattle.spec_trees.specs.declared.tree.Tree.{Tree}
use Rattle.spec_trees.specs.declared.tree.Element.{Element}
use Rattle.spec_trees.specs.Trees.{children_of, elements_of, pad_of, span_of, all_spans}
use Rattle.spec_trees.specs.Made.{most_span, bytes_before, children_count, loosened, remade, replaced, stretch_in}
use Rattle.spec_reuse.specs.Changes.{moved}
use Rattle.spec_reuse.specs.Marked.{all_marked, marked_below, marked_elements}
use Rattle.ts_node.proofs.ElementLemmas.{some_counted, count_within}
use Rattle.ts_node.proofs.PlaceLemmas.{count_rises, bytes_rise}
use Rattle.ts_marks.specs.Passing.{Adds, AddsChildren, AreDone, AreDoneTo, AreLoosened, AreLoosenedTo, Loosens, StayTo, spans_between}
use Rattle.ts_marks.proofs.MovedLemmas.{moved_rises}
use Rattle.ts_marks.proofs.MarkedLemmas.{stays, child_depth}
use Rattle.ts_marks.proofs.RemadeLemmas.{below_is, below_can, edges_short, moved_short, next_done, next_within}
use Rattle.ts_marks.proofs.ElementLemmas.{begin_loosened, next_loosened, all_loosened, none_loosened, next_known, next_count, next_bytes, bytes_within}
use Rattle.ts_marks.proofs.SkipLemmas.{between_next, between_end, between_within, element_end, begin_done, all_done}
use Rattle.ts_marks.proofs.marking.+walk.Goals as goal

pub add_changed-returns-then-not-is_reached : goal.add_changed-returns-then-not-is_reached
add_changed-returns-then-not-is_reached t c =
    inl (stays c.args.passed.edit.now c.args.child.now c.args.place c.args.passed.passed.whole c.nodes.ensures.whole (c.is_reached.ensures.settled c.if-not-is_reached.true) (c.is_reached.ensures.unmet c.if-not-is_reached.true), refl)

pub reached_in-reached_one_by_one-requires : goal.reached_in-reached_one_by_one-requires
reached_in-reached_one_by_one-requires t c = (
  omega (arith, c.decreases),
  (omega (arith, c.if-elements-eq0.true, c.elements.ensures.count), (c.requires.from, (c.requires.short, c.requires.moved))),
)

pub reached_in-reached_in_elements-requires : goal.reached_in-reached_in_elements-requires
reached_in-reached_in_elements-requires t c = (
  omega (arith, c.decreases),
  (omega (arith, c.if-elements-eq0.false, c.elements.ensures.count), (c.requires.from, (c.requires.short, c.requires.moved))),
)

pub reached_one_by_one-add_children-requires : goal.reached_one_by_one-add_children-requires
reached_one_by_one-add_children-requires t c =
    let ks = children_of c.args.node.now in
    let bytes : spans_between 0 c.children-end.result ks ≤ all_spans ks = omega (arith, between_within ks 0 c.children-end.result) in (
      omega (arith, c.decreases),
      (
        omega arith,
        (
          omega (arith, c.children-end.ensures),
          (
            c.requires.from,
            (
              omega (arith, bytes, c.requires.short),
              moved_short c.args.passed.edit.now (c.args.place + spans_between 0 c.children-end.result ks) (c.args.place + all_spans ks) (omega (arith, bytes)) c.requires.moved,
            ),
          ),
        ),
      ),
    )

pub reached_one_by_one-returns-clause-changes : goal.reached_one_by_one-returns-clause-changes
reached_one_by_one-returns-clause-changes t c =
    let e = c.args.passed.edit.now in
    let ks = children_of c.args.node.now in
    let start : AreDone e ks c.args.place c.new-changed.result.items 0 c.args.place =
    subst (λ (cs : List (ℕ × Tree)). AreDone e ks c.args.place cs 0 c.args.place) (sym c.new-changed.ensures.items) (begin_done e ks c.args.place c.args.place refl) in
    all_done e ks c.args.place c.add_children.new.changed.items c.children-end.result (c.args.place + spans_between 0 c.children-end.result ks) (omega (arith, c.children-end.ensures))
    (c.in_ok-add_children.ensures.done c.args.place start)

pub reached_one_by_one-returns-clause-within : goal.reached_one_by_one-returns-clause-within
reached_one_by_one-returns-clause-within t c =
    let n = length (children_of c.args.node.now) in
    c.in_ok-add_children.ensures.within
    (subst (λ (cs : List (ℕ × Tree)). All (λ (x : ℕ × Tree). x.0 < n) cs) (sym c.new-changed.ensures.items) (All-nil (λ (x : ℕ × Tree). x.0 < n)))

pub reached_one_by_one-returns-clause-loose : goal.reached_one_by_one-returns-clause-loose
reached_one_by_one-returns-clause-loose t c =
    none_loosened c.args.passed.edit.now (elements_of c.args.node.now) (children_of c.args.node.now) c.args.place c.new-loose.result.items c.requires.none c.new-loose.ensures.items

pub reached_one_by_one-returns-clause-known : goal.reached_one_by_one-returns-clause-known
reached_one_by_one-returns-clause-known t c =
    let n = length (elements_of c.args.node.now) in
    subst (λ (ls : List ℕ). All (λ (k : ℕ). k < n) ls) (sym c.new-loose.ensures.items) (All-nil (λ (k : ℕ). k < n))

pub reached_in_elements-returns-clause-changes : goal.reached_in_elements-returns-clause-changes
reached_in_elements-returns-clause-changes t c =
    let n = c.args.node.now in
    let own : children_count (elements_of n) ≡ length (children_of n) = some_counted (elements_of n) (children_of n) c.requires.repetition c.elements-end.ensures.own in
    let all : take c.loop-k.k (elements_of n) ≡ elements_of n = take_all c.loop-k.k (elements_of n) (omega (arith, c.loop-k-test.false, c.elements-end.ensures.count)) in
    let count : children_count (take c.loop-k.k (elements_of n)) ≡ children_count (elements_of n) = ap children_count all in
    all_done c.args.passed.edit.now (children_of n) c.args.place c.loop-k.changed.items (children_count (take c.loop-k.k (elements_of n))) (c.args.place + bytes_before c.loop-k.k (stretch_in n)) (omega (arith, own, count)) c.loop-k.invariant.done

pub reached_in_elements-returns-clause-loose : goal.reached_in_elements-returns-clause-loose
reached_in_elements-returns-clause-loose t c =
    all_loosened c.args.passed.edit.now (elements_of c.args.node.now) (children_of c.args.node.now) c.args.place c.loop-k.loose.items c.loop-k.k _ _ (omega (arith, c.loop-k-test.false, c.elements-end.ensures.count)) c.loop-k.invariant.loosened

pub reached_in_elements-loop-k-init : goal.reached_in_elements-loop-k-init
reached_in_elements-loop-k-init t c =
    let e = c.args.passed.edit.now in
    let n = c.args.node.now in
    let none : bytes_before 0 (stretch_in n) ≡ 0 = refl in
    let start : AreDoneTo e n c.args.place [] 0 = begin_done e (children_of n) c.args.place (c.args.place + bytes_before 0 (stretch_in n)) (omega (arith, none)) in
    let here : AreDoneTo e n c.args.place c.new-changed.result.items 0 = subst (λ (cs : List (ℕ × Tree)). AreDoneTo e n c.args.place cs 0) (sym c.new-changed.ensures.items) start in
    let first : AreLoosenedTo e n c.args.place [] 0 = begin_loosened e (elements_of n) (children_of n) c.args.place (c.args.place + bytes_before 0 (stretch_in n)) (omega (arith, none)) in
    let own : AreLoosenedTo e n c.args.place c.new-loose.result.items 0 = subst (λ (ls : List ℕ). AreLoosenedTo e n c.args.place ls 0) (sym c.new-loose.ensures.items) first in
    record {
      edit = refl;
      until = c.first_reached-first.ensures.within;
      from = omega (arith, c.requires.from);
      done = c.first_reached-first.ensures.stay.children c.new-changed.result.items here;
      within = subst (λ (cs : List (ℕ × Tree)). All (λ (x : ℕ × Tree). x.0 < length (children_of n)) cs) (sym c.new-changed.ensures.items) (All-nil (λ (x : ℕ × Tree). x.0 < length (children_of n)));
      loosened = c.first_reached-first.ensures.stay.elements c.new-loose.result.items own;
      known = subst (λ (ls : List ℕ). All (λ (i : ℕ). i < length (elements_of n)) ls) (sym c.new-loose.ensures.items) (All-nil (λ (i : ℕ). i < length (elements_of n)));
    }

pub reached_in_elements-overflow_add-at : goal.reached_in_elements-overflow_add-at
reached_in_elements-overflow_add-at t c =
    omega (arith, c.offset.ensures, bytes_within (children_of c.args.node.now) (children_count (take c.loop-k.k (elements_of c.args.node.now))), c.requires.short)

pub reached_in_elements-up_to-passed-requires-clause-from : goal.reached_in_elements-up_to-passed-requires-clause-from
reached_in_elements-up_to-passed-requires-clause-from t c = omega (arith, c.loop-k.invariant.from, c.offset.ensures)

pub reached_in_elements-up_to-passed-requires-clause-short : goal.reached_in_elements-up_to-passed-requires-clause-short
reached_in_elements-up_to-passed-requires-clause-short t c =
    let n = c.args.node.now in
    let at : c.args.place + c.offset.result ≡ c.args.place + bytes_before c.loop-k.k (stretch_in n) = omega (arith, c.offset.ensures) in
    let s : moved c.args.passed.edit.now (c.args.place + c.offset.result) ≤ most_span =
    moved_short c.args.passed.edit.now (c.args.place + c.offset.result) (c.args.place + all_spans (children_of n))
    (omega (arith, at, bytes_within (children_of n) (children_count (take c.loop-k.k (elements_of n))))) c.requires.moved in
    subst (λ (e : Edit). moved e (c.args.place + c.offset.result) ≤ most_span) (sym c.loop-k.invariant.edit) s

pub reached_in_elements-add_children-requires : goal.reached_in_elements-add_children-requires
reached_in_elements-add_children-requires t c =
    let n = c.args.node.now in
    let es = elements_of n in
    let ks = children_of n in
    let k = c.loop-k.k in
    let own : children_count es ≡ length ks = some_counted es ks c.requires.repetition c.elements-end.ensures.own in
    let from : c.children_before-from.result ≡ children_count (take k es) = c.children_before-from.ensures in
    let to : c.children_before-to.result ≡ children_count (take (k + 1) es) = c.children_before-to.ensures in
    let end = element_end n k c.args.place c.offset.result c.children_before-from.result c.children_before-to.result c.offset.ensures from to in
    let within = bytes_within ks (children_count (take (k + 1) es)) in
    let s : moved c.args.passed.edit.now (c.args.place + c.offset.result + spans_between c.children_before-from.result c.children_before-to.result ks) ≤ most_span =
    moved_short c.args.passed.edit.now (c.args.place + c.offset.result + spans_between c.children_before-from.result c.children_before-to.result ks) (c.args.place + all_spans ks) (omega (arith, end, within)) c.requires.moved in (
      omega (arith, c.decreases),
      (
        omega (arith, from, to, count_rises k (k + 1) es (omega arith)),
        (
          omega (arith, to, own, count_within (k + 1) es),
          (
            c.up_to-passed.ensures.from,
            (
              omega (arith, end, within, c.requires.short),
              subst (λ (e : Edit). moved e (c.args.place + c.offset.result + spans_between c.children_before-from.result c.children_before-to.result ks) ≤ most_span) (sym (c.up_to-passed.ensures.edit ∙ c.loop-k.invariant.edit)) s,
            ),
          ),
        ),
      ),
    )

pub reached_in_elements-first_reached-k-requires-clause-from : goal.reached_in_elements-first_reached-k-requires-clause-from
reached_in_elements-first_reached-k-requires-clause-from t c =
    omega (arith, c.up_to-passed.ensures.from, c.offset.ensures, bytes_rise (stretch_in c.args.node.now) c.loop-k.k (c.loop-k.k + 1) (omega arith))

pub reached_in_elements-loop-k-smaller : goal.reached_in_elements-loop-k-smaller
reached_in_elements-loop-k-smaller t c = omega (arith, c.loop-k-test.true, c.elements-end.ensures.count, c.first_reached-k.ensures.later)

pub reached_in_elements-loop-k-preserved : goal.reached_in_elements-loop-k-preserved
reached_in_elements-loop-k-preserved t c =
    let e = c.args.passed.edit.now in
    let n = c.args.node.now in
    let es = elements_of n in
    let ks = children_of n in
    let k = c.loop-k.k in
    let at = c.args.place + c.offset.result in
    let from : c.children_before-from.result ≡ children_count (take k es) = c.children_before-from.ensures in
    let to : c.children_before-to.result ≡ children_count (take (k + 1) es) = c.children_before-to.ensures in
    let begin : c.args.place + bytes_before k (stretch_in n) ≡ at = omega (arith, c.offset.ensures) in
    let end = element_end n k c.args.place c.offset.result c.children_before-from.result c.children_before-to.result c.offset.ensures from to in
    let edit = c.up_to-passed.ensures.edit ∙ c.loop-k.invariant.edit in
    let old = c.loop-k.changed.items in
    let new = c.add_children.new.changed.items in
    let adds : AddsChildren e ks c.children_before-from.result c.children_before-to.result at old new =
    subst (λ (x : Edit). AddsChildren x ks c.children_before-from.result c.children_before-to.result at old new) edit c.in_ok-add_children.ensures in
    let before : AreDone e ks c.args.place old c.children_before-from.result at =
    subst (λ (m : ℕ). AreDone e ks c.args.place old c.children_before-from.result m) begin
    (subst (λ (m : ℕ). AreDone e ks c.args.place old m (c.args.place + bytes_before k (stretch_in n))) (sym from) c.loop-k.invariant.done) in
    let after : AreDoneTo e n c.args.place new (k + 1) =
    subst (λ (m : ℕ). AreDone e ks c.args.place new (children_count (take (k + 1) es)) m) end
    (subst (λ (m : ℕ). AreDone e ks c.args.place new m (at + spans_between c.children_before-from.result c.children_before-to.result ks)) to (adds.done c.args.place before)) in
    let d : Element = c.element.result in
    let off0 : Loosens e d k at c.loop-k.loose.items c.add_loose.new.loose.items =
    subst (λ (x : Edit). Loosens x d k at c.loop-k.loose.items c.add_loose.new.loose.items) edit c.in_ok-add_loose.ensures in
    let here = c.args.place + bytes_before k (stretch_in n) in
    let off : Loosens e d k here c.loop-k.loose.items c.add_loose.new.loose.items = subst (λ (m : ℕ). Loosens e d k m c.loop-k.loose.items c.add_loose.new.loose.items) (sym begin) off0 in
    let count : children_count (take (k + 1) es) ≡ children_count (take k es) + d.children = next_count es k d c.element.ensures in
    let bytes : bytes_before (k + 1) (stretch_in n) ≡ bytes_before k (stretch_in n) + all_spans (take d.children (drop (children_count (take k es)) ks)) = next_bytes ks (children_count (take k es)) d.children (children_count (take (k + 1) es)) count in
    let next : AreLoosened e es ks c.args.place c.add_loose.new.loose.items (k + 1) (children_count (take k es) + d.children) (here + all_spans (take d.children (drop (children_count (take k es)) ks))) =
    next_loosened e es ks c.args.place c.loop-k.loose.items c.add_loose.new.loose.items k (children_count (take k es)) here d c.loop-k.invariant.loosened c.element.ensures off in
    let then_at : here + all_spans (take d.children (drop (children_count (take k es)) ks)) ≡ c.args.place + bytes_before (k + 1) (stretch_in n) = omega (arith, bytes) in
    let loosened_after : AreLoosenedTo e n c.args.place c.add_loose.new.loose.items (k + 1) =
    subst (λ (m : ℕ). AreLoosened e es ks c.args.place c.add_loose.new.loose.items (k + 1) (children_count (take (k + 1) es)) m) then_at
    (subst (λ (m : ℕ). AreLoosened e es ks c.args.place c.add_loose.new.loose.items (k + 1) m (here + all_spans (take d.children (drop (children_count (take k es)) ks)))) (sym count) next) in
    let stay : StayTo e n c.args.place (k + 1) c.first_reached-k.result = subst (λ (x : Edit). StayTo x n c.args.place (k + 1) c.first_reached-k.result) edit c.first_reached-k.ensures.stay in
    record {
      edit = edit;
      until = c.first_reached-k.ensures.within;
      from = omega (arith, c.up_to-passed.ensures.from, c.offset.ensures, bytes_rise (stretch_in n) k c.first_reached-k.result (omega (arith, c.first_reached-k.ensures.later)));
      done = stay.children new after;
      within = adds.within c.loop-k.invariant.within;
      loosened = stay.elements c.add_loose.new.loose.items loosened_after;
      known = next_known e (length es) k at d c.loop-k.loose.items c.add_loose.new.loose.items c.loop-k.invariant.known (omega (arith, c.loop-k-test.true, c.elements-end.ensures.count)) off0;
    }

pub add_children-up_to-passed-requires-clause-short : goal.add_children-up_to-passed-requires-clause-short
add_children-up_to-passed-requires-clause-short t c =
    let s : moved c.args.passed.edit.now c.loop-k.at ≤ most_span =
    moved_short c.args.passed.edit.now c.loop-k.at (c.args.place + spans_between c.args.from c.args.to (children_of c.args.node.now)) (omega (arith, c.loop-k.invariant.left)) c.requires.moved in
    subst (λ (e : Edit). moved e c.loop-k.at ≤ most_span) (sym c.loop-k.invariant.edit) s

pub add_children-add_changed-requires : goal.add_children-add_changed-requires
add_children-add_changed-requires t c =
    let child : Tree = c.child-child.result.now in
    let ks = children_of c.args.node.now in
    let next = between_next ks c.loop-k.k c.args.to child (omega (arith, c.loop-k-test.true)) c.child-child.ensures in
    let s : moved c.args.passed.edit.now (c.loop-k.at + span_of child) ≤ most_span =
    moved_short c.args.passed.edit.now (c.loop-k.at + span_of child) (c.args.place + spans_between c.args.from c.args.to ks) (omega (arith, c.loop-k.invariant.left, next)) c.requires.moved in (
      omega (arith, c.decreases, child_depth c.args.node.now c.loop-k.k child c.child-child.ensures),
      (
        c.up_to-passed.ensures.from,
        (
          c.up_to-passed.ensures.behind,
          (
            omega (arith, c.loop-k.invariant.left, next, c.requires.short),
            subst (λ (e : Edit). moved e (c.loop-k.at + span_of child) ≤ most_span) (sym (c.up_to-passed.ensures.edit ∙ c.loop-k.invariant.edit)) s,
          ),
        ),
      ),
    )

pub add_children-loop-k-preserved : goal.add_children-loop-k-preserved
add_children-loop-k-preserved t c =
    let child : Tree = c.child-child.result.now in
    let ks = children_of c.args.node.now in
    let next = between_next ks c.loop-k.k c.args.to child (omega (arith, c.loop-k-test.true)) c.child-child.ensures in
    let adds : Adds c.args.passed.edit.now child c.loop-k.k c.loop-k.at c.loop-k.changed.items c.add_changed.new.changed.items =
    subst (λ (e : Edit). Adds e child c.loop-k.k c.loop-k.at c.loop-k.changed.items c.add_changed.new.changed.items) (c.up_to-passed.ensures.edit ∙ c.loop-k.invariant.edit) c.in_ok-add_changed.ensures in
    let n : c.loop-k.at + c.span-at.result ≡ c.loop-k.at + span_of child = omega (arith, c.span-at.ensures.span) in
    record {
      edit = c.up_to-passed.ensures.edit ∙ c.loop-k.invariant.edit;
      until = omega (arith, c.loop-k-test.true);
      from = omega (arith, c.up_to-passed.ensures.from);
      left = omega (arith, c.loop-k.invariant.left, next, c.span-at.ensures.span);
      done = λ base d. next_done c.args.passed.edit.now ks base c.loop-k.changed.items c.add_changed.new.changed.items c.loop-k.k c.loop-k.at (c.loop-k.at + c.span-at.result) child (c.loop-k.invariant.done base d) c.child-child.ensures adds n;
      within = λ w. next_within c.args.passed.edit.now (length ks) c.loop-k.at c.loop-k.changed.items c.add_changed.new.changed.items c.loop-k.k child (c.loop-k.invariant.within w) (omega (arith, c.loop-k-test.true, c.requires.within)) adds;
    }

pub add_children-returns : goal.add_children-returns
add_children-returns t c =
    let e = c.args.passed.edit.now in
    let ks = children_of c.args.node.now in
    let end : c.loop-k.k ≡ c.args.to = omega (arith, c.loop-k-test.false, c.loop-k.invariant.until) in
    let at : c.loop-k.at ≡ c.args.place + spans_between c.args.from c.args.to ks = omega (arith, c.loop-k.invariant.left, between_end ks c.loop-k.k c.args.to (omega (arith, c.loop-k-test.false))) in
    record {
      done = λ base d.
          subst (λ (n : ℕ). AreDone e ks base c.loop-k.changed.items c.args.to n) at
          (subst (λ (n : ℕ). AreDone e ks base c.loop-k.changed.items n c.loop-k.at) end (c.loop-k.invariant.done base d));
      within = c.loop-k.invariant.within;
    }

pub remade-moved-start-requires-clause-short : goal.remade-moved-start-requires-clause-short
remade-moved-start-requires-clause-short t c = (edges_short c.args.passed.edit.now c.args.node.now c.args.place c.requires.moved).0

pub remade-moved-own-requires-clause-short : goal.remade-moved-own-requires-clause-short
remade-moved-own-requires-clause-short t c =
    subst (λ (n : ℕ). moved c.args.passed.edit.now (c.args.place + n) ≤ most_span) (sym c.pad.ensures) (edges_short c.args.passed.edit.now c.args.node.now c.args.place c.requires.moved).1

pub remade-reached_in-requires : goal.remade-reached_in-requires
remade-reached_in-requires t c = (
  omega (arith, c.decreases),
  (
    c.requires.from,
    (
      omega (arith, c.requires.short, c.span-whole.ensures.node.sized.within),
      moved_short c.args.passed.edit.now (c.args.place + all_spans (children_of c.args.node.now)) (c.args.place + span_of c.args.node.now) (omega (arith, c.span-whole.ensures.node.sized.within)) c.requires.moved,
    ),
  ),
)

pub remade-overflow_sub-own : goal.remade-overflow_sub-own
remade-overflow_sub-own t c =
    let o : c.moved-own.result ≡ moved c.args.passed.edit.now (c.args.place + pad_of c.args.node.now) = c.moved-own.ensures ∙ ap (λ (n : ℕ). moved c.args.passed.edit.now (c.args.place + n)) c.pad.ensures in
    omega (arith, o, c.moved-start.ensures, moved_rises 0 c.args.passed.edit.now.parts c.args.place (c.args.place + pad_of c.args.node.now) (omega arith))

pub remade-overflow_sub-end : goal.remade-overflow_sub-end
remade-overflow_sub-end t c =
    let o : c.moved-own.result ≡ moved c.args.passed.edit.now (c.args.place + pad_of c.args.node.now) = c.moved-own.ensures ∙ ap (λ (n : ℕ). moved c.args.passed.edit.now (c.args.place + n)) c.pad.ensures in
    let e : c.moved-end.result ≡ moved c.args.passed.edit.now (c.args.place + span_of c.args.node.now) = c.moved-end.ensures ∙ ap (λ (n : ℕ). moved c.args.passed.edit.now (c.args.place + n)) c.span-whole.ensures.span in
    omega (arith, o, e, moved_rises 0 c.args.passed.edit.now.parts (c.args.place + pad_of c.args.node.now) (c.args.place + span_of c.args.node.now) (omega arith))

pub remade-remake-requires-clause-node : goal.remade-remake-requires-clause-node
remade-remake-requires-clause-node t c =
    let o : c.moved-own.result ≡ moved c.args.passed.edit.now (c.args.place + pad_of c.args.node.now) = c.moved-own.ensures ∙ ap (λ (n : ℕ). moved c.args.passed.edit.now (c.args.place + n)) c.pad.ensures in
    let e : c.moved-end.result ≡ moved c.args.passed.edit.now (c.args.place + span_of c.args.node.now) = c.moved-end.ensures ∙ ap (λ (n : ℕ). moved c.args.passed.edit.now (c.args.place + n)) c.span-whole.ensures.span in
    let d : replaced c.as_slice.result.now (children_of c.args.node.now) ≡ all_marked c.args.passed.edit.now (children_of c.args.node.now) c.args.place =
    ap (λ (cs : List (ℕ × Tree)). replaced cs (children_of c.args.node.now)) c.as_slice.ensures.value ∙ c.in_ok-reached.ensures.changes in
    let f : loosened c.as_slice-2.result.now (elements_of c.args.node.now) ≡ marked_elements c.args.passed.edit.now (elements_of c.args.node.now) (children_of c.args.node.now) c.args.place =
    ap (λ (ks : List ℕ). loosened ks (elements_of c.args.node.now)) c.as_slice-2.ensures.value ∙ c.in_ok-reached.ensures.loose in
    c.remade_is_node.ensures c.args.node.now (c.moved-own.result - c.moved-start.result) (c.moved-end.result - c.moved-own.result) c.as_slice.result.now c.as_slice-2.result.now
    (below_can c.args.passed.edit.now c.args.node.now c.args.place c.moved-start.result c.moved-own.result c.moved-end.result c.as_slice.result.now c.as_slice-2.result.now c.args.passed.passed.whole c.span-whole.ensures.whole c.moved-start.ensures o e d f c.requires.moved)

pub remade-returns : goal.remade-returns
remade-returns t c =
    let o : c.moved-own.result ≡ moved c.args.passed.edit.now (c.args.place + pad_of c.args.node.now) = c.moved-own.ensures ∙ ap (λ (n : ℕ). moved c.args.passed.edit.now (c.args.place + n)) c.pad.ensures in
    let e : c.moved-end.result ≡ moved c.args.passed.edit.now (c.args.place + span_of c.args.node.now) = c.moved-end.ensures ∙ ap (λ (n : ℕ). moved c.args.passed.edit.now (c.args.place + n)) c.span-whole.ensures.span in
    let d : replaced c.as_slice.result.now (children_of c.args.node.now) ≡ all_marked c.args.passed.edit.now (children_of c.args.node.now) c.args.place =
    ap (λ (cs : List (ℕ × Tree)). replaced cs (children_of c.args.node.now)) c.as_slice.ensures.value ∙ c.in_ok-reached.ensures.changes in
    let f : loosened c.as_slice-2.result.now (elements_of c.args.node.now) ≡ marked_elements c.args.passed.edit.now (elements_of c.args.node.now) (children_of c.args.node.now) c.args.place =
    ap (λ (ks : List ℕ). loosened ks (elements_of c.args.node.now)) c.as_slice-2.ensures.value ∙ c.in_ok-reached.ensures.loose in
    let is : remade c.args.node.now (c.moved-own.result - c.moved-start.result) (c.moved-end.result - c.moved-own.result) c.as_slice.result.now c.as_slice-2.result.now ≡ marked_below c.args.passed.edit.now c.args.node.now c.args.place =
    below_is c.args.passed.edit.now c.args.node.now c.args.place c.moved-start.result c.moved-own.result c.moved-end.result c.as_slice.result.now c.as_slice-2.result.now c.moved-start.ensures o e d f c.requires.reached in
    IfOk-weaker c.remake.result _ _ (λ x h. h ∙ is) c.remake.ensures
