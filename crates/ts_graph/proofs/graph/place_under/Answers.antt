use Rattle.std.proofs.Common.{◌≡◌, ◌∙◌, sym, ap, ℕ, ◌+◌, ◌-◌, arith}
use Rattle.spec_trees.specs.Trees.{all_spans}
use Rattle.ts_gss.specs.Stacks.{stack_at, trees_on}
use Rattle.ts_graph.proofs.SpanLemmas.{sum_fits, top_fits, rest_spans}
use Rattle.ts_graph.proofs.UnderLemmas.{one_some, one_below}
use Rattle.ts_graph.proofs.graph.place_under.Goals as goal

pub loop-at-init : goal.loop-at-init
loop-at-init c = record { high = omega arith; low = c.requires.under; spans = c.requires.spans }

pub node-node-requires-clause-there : goal.node-node-requires-clause-there
node-node-requires-clause-there c = let n = c.requires.one.count in let h = c.loop-at.invariant.high in omega (arith, n, h)

pub node-node-requires-clause-some : goal.node-node-requires-clause-some
node-node-requires-clause-some c = one_some c.args.stack.now c.args.top c.requires.one c.loop-at.at (let t = c.loop-at-test.true in omega (arith, t)) c.loop-at.invariant.high

pub overflow_add-end : goal.overflow_add-end
overflow_add-end c =
    let fits = top_fits (stack_at c.args.stack.now c.loop-at.at) c.node-node.result.now c.loop-at.end c.node-node.ensures c.loop-at.invariant.spans in
    sum_fits c.pad.result c.size.result c.loop-at.end (omega (arith, fits, c.pad.ensures, c.size.ensures)) c.loop-at.auto.end-fits

pub overflow_sub-end : goal.overflow_sub-end
overflow_sub-end c =
    let fits = top_fits (stack_at c.args.stack.now c.loop-at.at) c.node-node.result.now c.loop-at.end c.node-node.ensures c.loop-at.invariant.spans in
    omega (arith, fits, c.pad.ensures, c.size.ensures)

pub loop-at-preserved : goal.loop-at-preserved
loop-at-preserved c =
    let t = c.loop-at-test.true in
    let h = c.loop-at.invariant.high in
    let l = c.loop-at.invariant.low in
    let fits = top_fits (stack_at c.args.stack.now c.loop-at.at) c.node-node.result.now c.loop-at.end c.node-node.ensures c.loop-at.invariant.spans in
    record {
      high = omega (arith, h);
      low = omega (arith, t, l);
      spans =
          ap (λ ls. all_spans (trees_on ls)) (one_below c.args.stack.now c.args.top c.requires.one c.loop-at.at (omega (arith, t)) h)
          ∙ rest_spans (stack_at c.args.stack.now c.loop-at.at) c.node-node.result.now c.loop-at.end (c.loop-at.end - (c.pad.result + c.size.result)) c.node-node.ensures c.loop-at.invariant.spans (omega (arith, fits, c.pad.ensures, c.size.ensures));
    }

pub returns : goal.returns
returns c =
    let f = c.loop-at-test.false in
    let l = c.loop-at.invariant.low in
    let same : c.loop-at.at ≡ c.args.number = omega (arith, f, l) in
    sym c.loop-at.invariant.spans ∙ ap (λ (n : ℕ). all_spans (trees_on (stack_at c.args.stack.now n))) same
