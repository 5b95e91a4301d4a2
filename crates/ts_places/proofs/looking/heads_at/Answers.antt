use Rattle.std.proofs.Common.{arith}
use Rattle.ts_places.proofs.PlaceLemmas.{one_past, one_there, all_there}
use Rattle.ts_places.proofs.looking.heads_at.Goals as goal

pub loop-number-preserved-then-head-place : goal.loop-number-preserved-then-head-place
loop-number-preserved-then-head-place c =
    one_past c.args.graph.now c.args.from c.args.place c.loop-number.number c.loop-number.heads.items c.loop-number.invariant c.head.result c.head.ensures (λ e. let h = c.if-head-place.true in grind arith)

pub loop-number-preserved : goal.loop-number-preserved
loop-number-preserved c =
    one_there c.args.graph.now c.args.from c.args.place c.loop-number.number c.loop-number.heads.items c.loop-number.invariant c.head.result c.head.ensures c.push.new.self.items c.in_ok-push.ensures.items (let h = c.if-head-place.false in grind arith)

pub returns : goal.returns
returns c =
    all_there c.args.graph.now c.args.from c.args.place c.loop-number.number c.loop-number.heads.items c.loop-number.invariant (let h = c.loop-number-test.false in let e = c.count-number-end.ensures.count in omega arith)
