use Rattle.std.proofs.Common.{◌≡◌, ◌+◌, ◌-◌, arith, drop}
use Rattle.spec_trees.specs.Trees.{span_of, all_spans, children_of}
use Rattle.ts_marks.proofs.MarkedLemmas.{spans_at}
use Rattle.ts_marks.proofs.spans.lead.Goals as goal

pub overflow_sub-left : goal.overflow_sub-left
overflow_sub-left c =
    let next = spans_at _ c.loop-k.k c.child.result.now c.child.ensures in
    omega (arith, c.loop-k.invariant, next, c.span-left.ensures.span, c.nodes.ensures.node.sized.within)

pub loop-k-preserved : goal.loop-k-preserved
loop-k-preserved c =
    let next = spans_at _ c.loop-k.k c.child.result.now c.child.ensures in
    let e : (c.loop-k.left - c.span-left.result) + all_spans (children_of c.args.node.now) ≡ span_of c.args.node.now + all_spans (drop (c.loop-k.k + 1) (children_of c.args.node.now)) =
    omega (arith, c.loop-k.invariant, next, c.span-left.ensures.span, c.nodes.ensures.node.sized.within) in
    e
