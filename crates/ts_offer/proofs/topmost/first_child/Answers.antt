use Rattle.std.proofs.Common.{◌≡◌, ◌+◌, ◌<◌, ◌≤◌, arith, drop, length}
use Rattle.spec_trees.specs.Trees.{span_of, all_spans, children_of}
use Rattle.ts_offer.proofs.PlaceLemmas.{spans_next, spans_ended}
use Rattle.ts_offer.proofs.TopLemmas.{first_is, none_with_bytes}
use Rattle.ts_offer.proofs.topmost.first_child.Goals as goal

pub returns-then-span-gt0 : goal.returns-then-span-gt0
returns-then-span-gt0 c =
    let some : 0 < span_of c.child-child.result.now = omega (arith, c.if-span-gt0.true, c.span.ensures) in
    first_is c.args.node.now c.child-child.result.now c.loop-k.k c.nodes.ensures.whole c.child-child.ensures c.loop-k.invariant some

pub loop-k-preserved : goal.loop-k-preserved
loop-k-preserved c =
    let next = spans_next _ c.loop-k.k c.child-child.result.now c.child-child.ensures in
    let e : all_spans (drop (c.loop-k.k + 1) (children_of c.args.node.now)) ≡ all_spans (children_of c.args.node.now) =
    omega (arith, next, c.loop-k.invariant, c.span.ensures, c.if-span-gt0.false) in
    e

pub returns : goal.returns
returns c =
    let past : length (children_of c.args.node.now) ≤ c.loop-k.k = omega (arith, c.loop-k-test.false, c.children-k-end.ensures) in
    let none : all_spans (children_of c.args.node.now) ≡ 0 = omega (arith, spans_ended (children_of c.args.node.now) c.loop-k.k past, c.loop-k.invariant) in
    none_with_bytes c.args.node.now c.nodes.ensures.whole none
