use Rattle.std.proofs.Common.{◌≡◌}
use Rattle.ts_langfile.specs.Reader.{times}
use Rattle.ts_langfile.specs.Parts.{entry_at}
use Rattle.ts_langfile.proofs.LoopLemmas.{times_next}
use Rattle.ts_langfile.proofs.symbols.ordering.Goals as goal

pub loop-preserved : goal.loop-preserved
loop-preserved c = rw c.in_ok-push.ensures.ok (times_next (entry_at c.args.bound c.args.names) c.loop.entries c.in_ok-count.count c.loop.counter c.loop.rest.now c.in_ok-entry.entry c.in_ok-entry.after.now (times c.in_ok-count.count (entry_at c.args.bound c.args.names) c.in_ok-count.start.now) c.loop-test.true c.in_ok-entry.ensures c.loop.invariant)
