use Rattle.std.proofs.Common.{◌∙◌, sym, ◌+◌, ◌-◌, arith}
use Rattle.ts_gss.specs.Stacks.{stack_at}
use Rattle.ts_graph.proofs.SpanLemmas.{sum_fits, top_fits}
use Rattle.ts_crossing.proofs.WalkLemmas.{some_extra, pass_first, pass_more, pass_last}
use Rattle.ts_crossing.proofs.entering.under_extras.Goals as goal

pub loop-node-init : goal.loop-node-init
loop-node-init c = pass_first c.args.stacks.now c.args.head c.requires.there c.requires.spans

pub extra-requires : goal.extra-requires
extra-requires c = c.loop-node.invariant.there

pub node-node-requires-clause-there : goal.node-node-requires-clause-there
node-node-requires-clause-there c = c.loop-node.invariant.there

pub node-node-requires-clause-some : goal.node-node-requires-clause-some
node-node-requires-clause-some c = some_extra (stack_at c.args.stacks.now c.loop-node.top) (sym c.extra.ensures ∙ c.loop-node-test.true)

pub overflow_add-place : goal.overflow_add-place
overflow_add-place c =
    let fits = top_fits (stack_at c.args.stacks.now c.loop-node.top) c.node-node.result.now c.loop-node.place c.node-node.ensures c.loop-node.invariant.spans in
    sum_fits c.pad.result c.size.result c.loop-node.place (omega (arith, fits, c.pad.ensures, c.size.ensures)) c.loop-node.auto.place-fits

pub overflow_sub-place : goal.overflow_sub-place
overflow_sub-place c =
    let fits = top_fits (stack_at c.args.stacks.now c.loop-node.top) c.node-node.result.now c.loop-node.place c.node-node.ensures c.loop-node.invariant.spans in
    omega (arith, fits, c.pad.ensures, c.size.ensures)

pub below-top-requires-clause-there : goal.below-top-requires-clause-there
below-top-requires-clause-there c = c.loop-node.invariant.there

pub below-top-requires-clause-some : goal.below-top-requires-clause-some
below-top-requires-clause-some c = some_extra (stack_at c.args.stacks.now c.loop-node.top) (sym c.extra.ensures ∙ c.loop-node-test.true)

pub loop-node-preserved : goal.loop-node-preserved
loop-node-preserved c =
    let fits = top_fits (stack_at c.args.stacks.now c.loop-node.top) c.node-node.result.now c.loop-node.place c.node-node.ensures c.loop-node.invariant.spans in
    pass_more c.args.stacks.now c.args.head c.loop-node.top c.loop-node.place c.below-top.result (c.loop-node.place - (c.pad.result + c.size.result)) c.node-node.result.now c.loop-node.invariant
    (sym c.extra.ensures ∙ c.loop-node-test.true) c.node-node.ensures c.below-top.ensures.stack c.below-top.ensures.lower (omega (arith, fits, c.pad.ensures, c.size.ensures))

pub returns-clause-under : goal.returns-clause-under
returns-clause-under c = pass_last c.args.stacks.now c.args.head c.loop-node.top c.loop-node.place c.loop-node.invariant (sym c.extra.ensures ∙ c.loop-node-test.false)

pub returns-clause-low : goal.returns-clause-low
returns-clause-low c = c.loop-node.invariant.low
