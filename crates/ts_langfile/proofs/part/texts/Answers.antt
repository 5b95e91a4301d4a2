use Rattle.std.proofs.Common.{◌≡◌}
use Rattle.ts_langfile.specs.Reader.{times}
use Rattle.ts_langfile.specs.Parts.{text_at}
use Rattle.ts_langfile.proofs.LoopLemmas.{times_next}
use Rattle.ts_langfile.proofs.part.texts.Goals as goal

pub loop-preserved : goal.loop-preserved
loop-preserved c = rw c.in_ok-push.ensures.ok (times_next text_at c.loop.texts c.args.count c.loop.counter c.loop.rest.now c.in_ok-text.text c.in_ok-text.after.now (times c.args.count text_at c.args.bytes.now) c.loop-test.true c.in_ok-text.ensures c.loop.invariant)
