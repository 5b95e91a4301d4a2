use Rattle.ts_fit.proofs.CyclicLemmas.{leads_nowhere, led_more, led_all}
use Rattle.ts_fit.proofs.cyclic.expand.Goals as goal
use Rattle.std.proofs.Common.{sym, arith}

pub returns-then-from-len : goal.returns-then-from-len
returns-then-from-len c = leads_nowhere c.args.grammar.now c.args.from c.args.found.now.keys (omega (arith, c.if-from-len.true, c.len.ensures))

pub loop-production-preserved : goal.loop-production-preserved
loop-production-preserved c =
    led_more c.args.grammar.now c.as_slice-production-items.result.now c.loop-production.production-index c.production-item.result c.args.found.now.keys c.loop-production.found.keys c.add_led.new.found.keys
    c.loop-production-test.true c.loop-production.invariant (let e = c.production-item.is in rw (sym e) c.in_ok-add_led.ensures)

pub returns : goal.returns
returns c =
    led_all c.args.grammar.now c.args.from c.loop-production.production-index c.get.result.now c.as_slice-production-items.result.now c.args.found.now.keys c.loop-production.found.keys
    c.get.ensures c.as_slice-production-items.ensures (omega (arith, c.loop-production-test.false)) c.loop-production.invariant
