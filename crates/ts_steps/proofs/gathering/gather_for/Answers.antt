use Rattle.std.proofs.Common.{arith}
use Rattle.ts_gss.specs.Stacks.{stack_at}
use Rattle.ts_steps.proofs.LayerLemmas.{no_deeper}
use Rattle.ts_steps.proofs.gathering.gather_for.Goals as goal

pub returns-in_ok-gathered-clause-deep : goal.returns-in_ok-gathered-clause-deep
returns-in_ok-gathered-clause-deep c deep =
    let v = c.requires.live in
    let r = c.in_ok-gathered.gathered in
    let stack = stack_at c.args.graph.now c.args.head.top in
    let low = c.deepest.ensures c.args.head.top v.3.there in
    let less = c.if-deepest-lt-MOST_DEPTH.true in
    let n = no_deeper stack r.extras.items r.children.items r.first r.others c.deepest.result (stack_at c.args.graph.now r.below) (c.in_ok-gathered.ensures.gathered v.0 v.1 v.3 v.4).layers low in
    absurd (omega (arith, deep, n, less))
