use Rattle.std.proofs.Common.{get_or, arith}
use Rattle.ts_places.proofs.SmallLemmas.{read_any}
use Rattle.ts_places.proofs.FrontierLemmas.{head_low, least_more, least_all}
use Rattle.ts_places.proofs.frontier.least_place.Goals as goal

pub head-head-requires : goal.head-head-requires
head-head-requires c =
    let k = get_or c.args.heads.now c.loop-number.number-index 0 in
    let low = c.loop-number-test.true in
    head_low c.args.graph.now c.args.heads.now c.requires c.loop-number.number-index k low (read_any c.args.heads.now c.loop-number.number-index 0 k low)

pub loop-number-preserved : goal.loop-number-preserved
loop-number-preserved c =
    let k = get_or c.args.heads.now c.loop-number.number-index 0 in
    let low = c.loop-number-test.true in
    least_more c.args.graph.now c.args.heads.now c.loop-number.number-index k low (read_any c.args.heads.now c.loop-number.number-index 0 k low) c.head-head.result c.head-head.ensures
    c.loop-number.least c.lesser-least.result c.lesser-least.ensures c.loop-number.invariant

pub returns : goal.returns
returns c = least_all c.args.graph.now c.args.heads.now c.loop-number.number-index c.loop-number.least (let h = c.loop-number-test.false in omega arith) c.loop-number.invariant
