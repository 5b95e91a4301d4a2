use Rattle.std.proofs.Common.{◌≡◌, ◌+◌, ◌<◌, ap, sym, ◌∙◌, arith, true, false, length}
use Rattle.std.specs.declared.cmp.Ordering.TheVariants.{Equal}
use Rattle.std.specs.Ordering.{is_ne}
use Rattle.spec_trees.specs.Trees.{children_of, elements_of}
use Rattle.ts_order.proofs.CodeLemmas.{alike, heads_differ, as_many_children, as_many_elements, by_children, by_elements, child_form, fewer, children_step, children_stop, children_end, element_order, as_long, elements_differ, elements_stop, elements_step, elements_end, own_ahead}
use Rattle.ts_order.proofs.order.+code.Goals as goal

pub compare-returns-then-is_ne : goal.compare-returns-then-is_ne
compare-returns-then-is_ne t c =
    heads_differ c.args.a.now c.args.b.now c.compare_heads-heads.result (sym c.is_ne.ensures ∙ c.if-is_ne.true) c.compare_heads-heads.ensures

pub compare-compare_children-requires : goal.compare-compare_children-requires
compare-compare_children-requires t c =
    let ne : is_ne c.compare_heads-heads.result ≡ false = sym c.is_ne.ensures ∙ c.if-is_ne.false in
    let l = alike c.requires.form.0 c.args.a.now c.args.b.now c.compare_heads-heads.result c.requires.form.1 c.requires.form.2 ne c.compare_heads-heads.ensures in
    let n : length (elements_of c.args.a.now) ≡ 0 = sym c.elements.ensures.count ∙ c.if-elements-eq0.true in (
      omega (arith, c.decreases),
      (
        c.requires.form,
        (omega (arith, c.children.ensures), (omega (arith, c.children.ensures, as_many_children c.args.a.now c.args.b.now l n), c.elements.ensures.few)),
      ),
    )

pub compare-compare_elements-requires : goal.compare-compare_elements-requires
compare-compare_elements-requires t c =
    let ne : is_ne c.compare_heads-heads.result ≡ false = sym c.is_ne.ensures ∙ c.if-is_ne.false in
    let l = alike c.requires.form.0 c.args.a.now c.args.b.now c.compare_heads-heads.result c.requires.form.1 c.requires.form.2 ne c.compare_heads-heads.ensures in
    let n : 0 < length (elements_of c.args.a.now) = omega (arith, c.elements.ensures.count, c.if-elements-eq0.false) in (
      omega (arith, c.decreases),
      (
        c.requires.form,
        (
          c.elements-else-elements-eq0.ensures.count ∙ sym (as_many_elements c.args.a.now c.args.b.now l n),
          (c.elements-else-elements-eq0.ensures.count, (c.elements.ensures.own, (c.elements-else-elements-eq0.ensures.own, c.elements.ensures.few))),
        ),
      ),
    )

pub compare-returns-then-elements-eq0 : goal.compare-returns-then-elements-eq0
compare-returns-then-elements-eq0 t c =
    let ne : is_ne c.compare_heads-heads.result ≡ false = sym c.is_ne.ensures ∙ c.if-is_ne.false in
    let l = alike c.requires.form.0 c.args.a.now c.args.b.now c.compare_heads-heads.result c.requires.form.1 c.requires.form.2 ne c.compare_heads-heads.ensures in
    let n : length (elements_of c.args.a.now) ≡ 0 = sym c.elements.ensures.count ∙ c.if-elements-eq0.true in
    by_children c.args.a.now c.args.b.now c.compare_heads-heads.result c.compare_children.result l ne c.compare_heads-heads.ensures n (rw c.children.ensures at c.compare_children.ensures)

pub compare-returns-else-elements-eq0 : goal.compare-returns-else-elements-eq0
compare-returns-else-elements-eq0 t c =
    let ne : is_ne c.compare_heads-heads.result ≡ false = sym c.is_ne.ensures ∙ c.if-is_ne.false in
    let l = alike c.requires.form.0 c.args.a.now c.args.b.now c.compare_heads-heads.result c.requires.form.1 c.requires.form.2 ne c.compare_heads-heads.ensures in
    let n : 0 < length (elements_of c.args.a.now) = omega (arith, c.elements.ensures.count, c.if-elements-eq0.false) in
    by_elements c.args.a.now c.args.b.now c.compare_heads-heads.result c.compare_elements.result l ne c.compare_heads-heads.ensures n c.compare_elements.ensures

pub compare_children-overflow_add-k-end : goal.compare_children-overflow_add-k-end
compare_children-overflow_add-k-end t c = omega (arith, c.requires.first, c.requires.few)

pub compare_children-compare-children-requires : goal.compare_children-compare-children-requires
compare_children-compare-children-requires t c = (
  omega (arith, c.decreases, fewer c.args.a.now c.loop-k.k c.child.result.now c.child.ensures),
  (
    c.requires.form.0,
    child_form c.requires.form.0 c.args.a.now c.loop-k.k c.child.result.now c.requires.form.1 c.child.ensures,
    child_form c.requires.form.0 c.args.b.now c.loop-k.k c.child-in-loop-k.result.now c.requires.form.2 c.child-in-loop-k.ensures,
  ),
)

pub compare_children-returns-then-is_ne : goal.compare_children-returns-then-is_ne
compare_children-returns-then-is_ne t c =
    let ne : is_ne c.compare-children.result ≡ true = sym c.is_ne.ensures ∙ c.if-is_ne.true in
    c.loop-k.invariant c.compare-children.result
    (children_stop c.args.a.now c.args.b.now c.loop-k.k (c.args.from + c.args.count) c.child.result.now c.child-in-loop-k.result.now c.compare-children.result c.child.ensures c.child-in-loop-k.ensures c.loop-k-test.true ne c.compare-children.ensures)

pub compare_children-loop-k-preserved : goal.compare_children-loop-k-preserved
compare_children-loop-k-preserved t c r h =
    let ne : is_ne c.compare-children.result ≡ false = sym c.is_ne.ensures ∙ c.if-is_ne.false in
    c.loop-k.invariant r
    (children_step c.args.a.now c.args.b.now c.loop-k.k (c.args.from + c.args.count) c.child.result.now c.child-in-loop-k.result.now c.compare-children.result r c.child.ensures c.child-in-loop-k.ensures c.loop-k-test.true ne c.compare-children.ensures h)

pub compare_children-returns : goal.compare_children-returns
compare_children-returns t c =
    c.loop-k.invariant Equal (children_end c.args.a.now c.args.b.now c.loop-k.k (c.args.from + c.args.count) (omega (arith, c.loop-k-test.false)))

pub compare_elements-returns-then-is_ne : goal.compare_elements-returns-then-is_ne
compare_elements-returns-then-is_ne t c =
    let o : c.then-heads.result ≡ element_order c.element-first.result c.element-second.result = rw (c.cmp.ensures, c.cmp-in-loop-k.ensures) at c.then-heads.ensures in
    let ne : is_ne (element_order c.element-first.result c.element-second.result) ≡ true = sym (ap is_ne o) ∙ sym c.is_ne.ensures ∙ c.if-is_ne.true in
    rw o (c.loop-k.invariant.same (element_order c.element-first.result c.element-second.result) (elements_differ c.args.a.now c.args.b.now c.loop-k.k c.loop-k.from c.element-first.result c.element-second.result c.element-first.ensures c.element-second.ensures ne))

pub compare_elements-compare_children-children-requires :
    goal.compare_elements-compare_children-children-requires
compare_elements-compare_children-children-requires t c =
    let o : c.then-heads.result ≡ element_order c.element-first.result c.element-second.result = rw (c.cmp.ensures, c.cmp-in-loop-k.ensures) at c.then-heads.ensures in
    let ne : is_ne (element_order c.element-first.result c.element-second.result) ≡ false = sym (ap is_ne o) ∙ sym c.is_ne.ensures ∙ c.if-is_ne.false in
    let own_a = own_ahead (elements_of c.args.a.now) c.loop-k.k c.loop-k.from (length (children_of c.args.a.now)) c.element-first.result c.element-first.ensures c.loop-k.invariant.first in
    let own_b = own_ahead (elements_of c.args.b.now) c.loop-k.k c.loop-k.from (length (children_of c.args.b.now)) c.element-second.result c.element-second.ensures c.loop-k.invariant.second in (
      omega (arith, c.decreases),
      (
        c.requires.form,
        (omega (arith, own_a), (omega (arith, own_b, as_long c.element-first.result c.element-second.result ne), c.requires.few)),
      ),
    )

pub compare_elements-returns-then-is_ne-2 : goal.compare_elements-returns-then-is_ne-2
compare_elements-returns-then-is_ne-2 t c =
    let o : c.then-heads.result ≡ element_order c.element-first.result c.element-second.result = rw (c.cmp.ensures, c.cmp-in-loop-k.ensures) at c.then-heads.ensures in
    let ne : is_ne (element_order c.element-first.result c.element-second.result) ≡ false = sym (ap is_ne o) ∙ sym c.is_ne.ensures ∙ c.if-is_ne.false in
    let ne2 : is_ne c.compare_children-children.result ≡ true = sym c.is_ne-in-loop-k.ensures ∙ c.if-is_ne-2.true in
    c.loop-k.invariant.same c.compare_children-children.result (elements_stop c.args.a.now c.args.b.now c.loop-k.k c.loop-k.from c.element-first.result c.element-second.result c.compare_children-children.result c.element-first.ensures c.element-second.ensures ne ne2 c.compare_children-children.ensures)

pub compare_elements-overflow_add-from : goal.compare_elements-overflow_add-from
compare_elements-overflow_add-from t c =
    let own = own_ahead (elements_of c.args.a.now) c.loop-k.k c.loop-k.from (length (children_of c.args.a.now)) c.element-first.result c.element-first.ensures c.loop-k.invariant.first in
    omega (arith, own, c.requires.few)

pub compare_elements-loop-k-preserved : goal.compare_elements-loop-k-preserved
compare_elements-loop-k-preserved t c =
    let o : c.then-heads.result ≡ element_order c.element-first.result c.element-second.result = rw (c.cmp.ensures, c.cmp-in-loop-k.ensures) at c.then-heads.ensures in
    let ne : is_ne (element_order c.element-first.result c.element-second.result) ≡ false = sym (ap is_ne o) ∙ sym c.is_ne.ensures ∙ c.if-is_ne.false in
    let ne2 : is_ne c.compare_children-children.result ≡ false = sym c.is_ne-in-loop-k.ensures ∙ c.if-is_ne-2.false in
    let own_a = own_ahead (elements_of c.args.a.now) c.loop-k.k c.loop-k.from (length (children_of c.args.a.now)) c.element-first.result c.element-first.ensures c.loop-k.invariant.first in
    let own_b = own_ahead (elements_of c.args.b.now) c.loop-k.k c.loop-k.from (length (children_of c.args.b.now)) c.element-second.result c.element-second.ensures c.loop-k.invariant.second in
    record {
      first = own_a;
      second = omega (arith, own_b, as_long c.element-first.result c.element-second.result ne);
      same = λ r h. c.loop-k.invariant.same r (elements_step c.args.a.now c.args.b.now c.loop-k.k c.loop-k.from c.element-first.result c.element-second.result c.compare_children-children.result r c.element-first.ensures c.element-second.ensures ne ne2 c.compare_children-children.ensures h);
    }

pub compare_elements-returns : goal.compare_elements-returns
compare_elements-returns t c =
    c.loop-k.invariant.same Equal (elements_end c.args.a.now c.args.b.now c.loop-k.k c.loop-k.from (omega (arith, c.loop-k-test.false, c.requires.first)) (omega (arith, c.loop-k-test.false, c.requires.second)))
