use Rattle.std.proofs.Common.{◌≡◌}
use Rattle.ts_langfile.specs.Reader.{times}
use Rattle.ts_langfile.specs.Parts.{symbol_at}
use Rattle.ts_langfile.proofs.LoopLemmas.{times_next}
use Rattle.ts_langfile.proofs.symbols.symbols.Goals as goal

pub loop-preserved : goal.loop-preserved
loop-preserved c = rw c.in_ok-push.ensures.ok (times_next (symbol_at c.args.least c.args.bound) c.loop.symbols c.in_ok-count.count c.loop.counter c.loop.rest.now c.in_ok-symbol.symbol c.in_ok-symbol.after.now (times c.in_ok-count.count (symbol_at c.args.least c.args.bound) c.in_ok-count.start.now) c.loop-test.true c.in_ok-symbol.ensures c.loop.invariant)
