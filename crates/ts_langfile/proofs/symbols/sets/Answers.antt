use Rattle.std.proofs.Common.{◌≡◌}
use Rattle.ts_langfile.specs.Reader.{times}
use Rattle.ts_langfile.specs.Parts.{symbols_at}
use Rattle.ts_langfile.proofs.LoopLemmas.{times_next}
use Rattle.ts_langfile.proofs.symbols.sets.Goals as goal

pub loop-preserved : goal.loop-preserved
loop-preserved c = rw c.in_ok-push.ensures.ok (times_next (symbols_at 0 c.args.bound) c.loop.sets c.in_ok-count.count c.loop.counter c.loop.rest.now c.in_ok-set.set c.in_ok-set.after.now (times c.in_ok-count.count (symbols_at 0 c.args.bound) c.in_ok-count.start.now) c.loop-test.true c.in_ok-set.ensures c.loop.invariant)
