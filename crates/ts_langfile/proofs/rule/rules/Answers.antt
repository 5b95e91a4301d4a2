use Rattle.std.proofs.Common.{◌≡◌, arith}
use Rattle.std.proofs.lemmas.List.{length-append}
use Rattle.ts_langfile.specs.Reader.{in_turn}
use Rattle.ts_langfile.specs.Parts.{rule_at, left_after}
use Rattle.ts_langfile.proofs.LoopLemmas.{in_turn_next}
use Rattle.ts_langfile.proofs.rule.rules.Goals as goal

pub loop-preserved : goal.loop-preserved
loop-preserved c = (rw (c.in_ok-push.ensures.ok, c.len.ensures) (in_turn_next (rule_at c.args.symbols c.args.known.now) left_after c.loop.rules c.args.count c.loop.counter c.loop.left c.loop.rest.now c.in_ok-rule.rule c.in_ok-rule.after.now (in_turn (rule_at c.args.symbols c.args.known.now) left_after c.args.count c.args.most c.args.bytes.now) c.loop-test.true c.in_ok-rule.ensures.read c.loop.invariant.0), rw (c.in_ok-push.ensures.ok, length-append) (omega (arith, c.loop.invariant.1)))
