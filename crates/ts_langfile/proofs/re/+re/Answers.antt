use Rattle.std.proofs.Common.{◌≡◌}
use Rattle.ts_langfile.specs.Reader.{times}
use Rattle.ts_langfile.specs.Parts.{re_at}
use Rattle.ts_langfile.proofs.LoopLemmas.{times_next}
use Rattle.ts_langfile.proofs.re.+re.Goals as goal

pub parts-loop-preserved : goal.parts-loop-preserved
parts-loop-preserved t c = rw c.in_ok-push.ensures.ok (times_next (re_at c.args.room) c.loop.parts c.in_ok-count.count c.loop.counter c.loop.rest.now c.in_ok-part.part c.in_ok-part.after.now (times c.in_ok-count.count (re_at c.args.room) c.in_ok-count.start.now) c.loop-test.true c.in_ok-part.ensures c.loop.invariant)
