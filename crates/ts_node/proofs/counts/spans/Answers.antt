use Rattle.std.proofs.Common.{◌≡◌, ◌+◌, ◌≤◌, ap, arith, [], length, drop}
use Rattle.std.proofs.lemmas.List.{drop_all}
use Rattle.spec_trees.specs.Trees.{span_of, all_spans}
use Rattle.spec_trees.specs.Made.{IsNode}
use Rattle.ts_node.proofs.WholeLemmas.{drop_next}
use Rattle.ts_node.proofs.counts.spans.Goals as goal

pub loop-node-preserved : goal.loop-node-preserved
loop-node-preserved c =
    let ks = c.args.nodes.now in
    let i = c.loop-node.node-index in
    let t = c.node-item.result in
    let old = c.loop-node.invariant in
    let tells = c.summary-summary.ensures in
    let node : IsNode t = tells.node in
    let rest = drop_next ks i t c.loop-node-test.true c.node-item.is in
    let spans : all_spans (drop i ks) ≡ span_of t + all_spans (drop (i + 1) ks) = ap all_spans rest in
    record {
      spans = omega (arith, old.spans, tells.pad, tells.size, spans);
      short = omega (arith, old.short, tells.pad, tells.size, node.sized.short);
    }

pub returns : goal.returns
returns c =
    let ks = c.args.nodes.now in
    let i = c.loop-node.node-index in
    let past : length ks ≤ i = omega (arith, c.loop-node-test.false) in
    let none : drop i ks ≡ [] = drop_all i ks past in
    let spans : all_spans (drop i ks) ≡ 0 = ap all_spans none in
    record {
      spans = omega (arith, c.loop-node.invariant.spans, spans);
      short = omega (arith, c.loop-node.invariant.short, c.loop-node.auto.node-index-end);
    }
