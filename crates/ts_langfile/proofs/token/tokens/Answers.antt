use Rattle.std.proofs.Common.{◌≡◌, arith}
use Rattle.std.proofs.lemmas.List.{length-append}
use Rattle.ts_langfile.specs.Reader.{times}
use Rattle.ts_langfile.specs.Parts.{token_at}
use Rattle.ts_langfile.proofs.LoopLemmas.{times_next}
use Rattle.ts_langfile.proofs.token.tokens.Goals as goal

pub loop-preserved : goal.loop-preserved
loop-preserved c = (rw c.in_ok-push.ensures.ok (times_next (token_at c.args.known.now) c.loop.tokens c.args.count c.loop.counter c.loop.rest.now c.in_ok-token.token c.in_ok-token.after.now (times c.args.count (token_at c.args.known.now) c.args.bytes.now) c.loop-test.true c.in_ok-token.ensures c.loop.invariant.0), rw (c.in_ok-push.ensures.ok, length-append) (omega (arith, c.loop.invariant.1)))
