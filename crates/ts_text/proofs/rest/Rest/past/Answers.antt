use Rattle.std.proofs.Common.{◌-◌, ◌<◌, ◌≤◌, length, refl}
use Rattle.ts_text.proofs.PieceLemmas.{past_more, past_utf8}
use Rattle.ts_text.proofs.rest.Rest.past.Goals as goal

pub loop-head-preserved : goal.loop-head-preserved
loop-head-preserved c =
    let less : length c.loop-head.head.now < c.loop-head.count = c.loop-head-test.true in (
      c.text-head.utf8,
      past_more c.args.self.now c.loop-head.head.now c.text-head.result.now c.loop-head.later.now c.split_at.result.1.now c.args.count c.loop-head.count
          (c.loop-head.count - length c.loop-head.head.now) c.index-later-0.result
          c.loop-head.invariant.1 less c.index-later-0.is c.text-head.ensures c.split_at.ensures.back refl,
    )

pub returns-clause-utf8 : goal.returns-clause-utf8
returns-clause-utf8 c =
    let within : c.loop-head.count ≤ length c.loop-head.head.now = c.loop-head-test.false in
    past_utf8 c.args.self.now c.loop-head.head.now c.split_at-2.result.1.now c.loop-head.later.now c.args.count c.loop-head.count
    c.loop-head.invariant.1 within c.split_at-2.ensures.back
