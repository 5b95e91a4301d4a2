use Rattle.std.proofs.Common.{get_or, arith}
use Rattle.ts_places.proofs.SmallLemmas.{read_any}
use Rattle.ts_places.proofs.FrontierLemmas.{head_low, past_left_out, past_put, past_all}
use Rattle.ts_places.proofs.frontier.those_past.Goals as goal

pub head-requires : goal.head-requires
head-requires c =
    let k = get_or c.args.heads.now c.loop-number.number-index 0 in
    let low = c.loop-number-test.true in
    head_low c.args.graph.now c.args.heads.now c.requires c.loop-number.number-index k low (read_any c.args.heads.now c.loop-number.number-index 0 k low)

pub loop-number-preserved-then-head-place : goal.loop-number-preserved-then-head-place
loop-number-preserved-then-head-place c =
    let k = get_or c.args.heads.now c.loop-number.number-index 0 in
    let low = c.loop-number-test.true in
    past_left_out c.args.graph.now c.args.place c.args.heads.now c.loop-number.past.items c.loop-number.number-index k low (read_any c.args.heads.now c.loop-number.number-index 0 k low) c.head.result c.head.ensures
    (let h = c.if-head-place.true in grind arith) c.loop-number.invariant

pub loop-number-preserved : goal.loop-number-preserved
loop-number-preserved c =
    let k = get_or c.args.heads.now c.loop-number.number-index 0 in
    let low = c.loop-number-test.true in
    past_put c.args.graph.now c.args.place c.args.heads.now c.loop-number.past.items c.loop-number.number-index k low (read_any c.args.heads.now c.loop-number.number-index 0 k low) c.head.result c.head.ensures
    c.push.new.self.items c.in_ok-push.ensures.items (let h = c.if-head-place.false in grind arith) c.loop-number.invariant

pub returns : goal.returns
returns c = past_all c.args.graph.now c.args.place c.args.heads.now c.loop-number.past.items c.loop-number.number-index (let h = c.loop-number-test.false in omega arith) c.loop-number.invariant
