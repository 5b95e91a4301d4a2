use Rattle.std.proofs.Common.{◌≡◌}
use Rattle.ts_langfile.specs.Reader.{times}
use Rattle.ts_langfile.specs.Parts.{listed_at, entry_at}
use Rattle.ts_langfile.proofs.LoopLemmas.{times_next}
use Rattle.ts_langfile.proofs.symbols.orderings.Goals as goal

pub loop-preserved : goal.loop-preserved
loop-preserved c = rw c.in_ok-push.ensures.ok (times_next (listed_at (entry_at c.args.bound c.args.names)) c.loop.orderings c.in_ok-count.count c.loop.counter c.loop.rest.now c.in_ok-entries.entries c.in_ok-entries.after.now (times c.in_ok-count.count (listed_at (entry_at c.args.bound c.args.names)) c.in_ok-count.start.now) c.loop-test.true c.in_ok-entries.ensures c.loop.invariant)
