use Rattle.std.proofs.Common.{◌≡◌}
use Rattle.ts_langfile.specs.Reader.{in_turn}
use Rattle.ts_langfile.specs.Parts.{range_at, behind_range}
use Rattle.ts_langfile.proofs.LoopLemmas.{in_turn_next}
use Rattle.ts_langfile.proofs.re.ranges.Goals as goal

pub loop-preserved : goal.loop-preserved
loop-preserved c = rw c.in_ok-push.ensures.ok (in_turn_next range_at behind_range c.loop.ranges c.args.count c.loop.counter c.loop.least c.loop.rest.now c.in_ok-range.range c.in_ok-range.after.now (in_turn range_at behind_range c.args.count 0 c.args.bytes.now) c.loop-test.true c.in_ok-range.ensures.read c.loop.invariant)
