use Rattle.std.proofs.Common.{◌≡◌}
use Rattle.ts_langfile.specs.Reader.{times}
use Rattle.ts_langfile.specs.Parts.{step_at}
use Rattle.ts_langfile.proofs.LoopLemmas.{times_next}
use Rattle.ts_langfile.proofs.rule.steps.Goals as goal

pub loop-preserved : goal.loop-preserved
loop-preserved c = rw c.in_ok-push.ensures.ok (times_next (step_at c.args.symbols c.args.known.now) c.loop.steps c.args.count c.loop.counter c.loop.rest.now c.in_ok-step.step c.in_ok-step.after.now (times c.args.count (step_at c.args.symbols c.args.known.now) c.args.bytes.now) c.loop-test.true c.in_ok-step.ensures c.loop.invariant)
