use Rattle.std.proofs.Common.{arith}
use Rattle.ts_places.proofs.FrontierLemmas.{none_added, one_left_out, one_added, all_added}
use Rattle.ts_places.proofs.frontier.add_past.Goals as goal

pub loop-number-init : goal.loop-number-init
loop-number-init c = none_added c.args.graph.now c.args.from c.args.place c.args.heads.now.items

pub loop-number-preserved-then-head-place : goal.loop-number-preserved-then-head-place
loop-number-preserved-then-head-place c =
    one_left_out c.args.graph.now c.args.from c.args.place c.args.heads.now.items c.loop-number.number c.loop-number.heads.items c.loop-number.invariant c.head.result c.head.ensures (let h = c.if-head-place.true in grind arith)

pub loop-number-preserved : goal.loop-number-preserved
loop-number-preserved c =
    one_added c.args.graph.now c.args.from c.args.place c.args.heads.now.items c.loop-number.number c.loop-number.heads.items c.loop-number.invariant c.head.result c.head.ensures c.push.new.self.items c.in_ok-push.ensures.items (let h = c.if-head-place.false in grind arith)

pub returns : goal.returns
returns c =
    all_added c.args.graph.now c.args.from c.args.place c.args.heads.now.items c.loop-number.number c.loop-number.heads.items c.loop-number.invariant (let h = c.loop-number-test.false in let e = c.count-number-end.ensures.count in omega arith)
