use Rattle.std.proofs.Common.{◌≡◌, ◌-◌, arith, sym, subst, ◌∙◌, List, Some, drop, slice_get}
use Rattle.spec_trees.specs.declared.tree.Tree.{Tree}
use Rattle.spec_trees.specs.Made.{fills_from}
use Rattle.ts_node.proofs.FillLemmas.{count_drop, fill_element, skip_element}
use Rattle.ts_node.proofs.fills.fill_among.Goals as goal

pub returns-then-k-from : goal.returns-then-k-from
returns-then-k-from c =
    let d : c.past-others.result.now ≡ drop c.loop-element.from c.args.children.now = c.past-others.ensures in
    let f : slice_get (fills_from 0 c.past-others.result.now) (c.args.k - c.loop-element.from) ≡ Some c.fill.result = c.fill.ensures in
    let h : slice_get (fills_from 0 (drop c.loop-element.from c.args.children.now)) (c.args.k - c.loop-element.from) ≡ Some c.fill.result =
    subst (λ (ts : List Tree). slice_get (fills_from 0 ts) (c.args.k - c.loop-element.from) ≡ Some c.fill.result) d f in
    sym c.loop-element.invariant.same
    ∙ fill_element c.args.elements.now c.args.children.now c.loop-element.element-index c.loop-element.from c.args.k c.fill.result c.loop-element-test.true c.loop-element.invariant.past c.requires.within c.if-k-from.true h

pub loop-element-preserved : goal.loop-element-preserved
loop-element-preserved c = record {
  past = omega (arith, c.loop-element.invariant.past, c.if-k-from.false);
  own = omega (arith, c.loop-element.invariant.own, count_drop _ _ c.loop-element-test.true);
  same = skip_element _ _ _ _ _ c.loop-element-test.true (omega (arith, c.loop-element.invariant.past, c.if-k-from.false)) c.requires.within ∙ c.loop-element.invariant.same;
}
