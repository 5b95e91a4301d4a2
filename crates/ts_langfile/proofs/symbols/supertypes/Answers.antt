use Rattle.std.proofs.Common.{◌≡◌}
use Rattle.ts_langfile.specs.Reader.{in_turn}
use Rattle.ts_langfile.specs.Parts.{supertype_at, behind_symbol}
use Rattle.ts_langfile.proofs.LoopLemmas.{in_turn_next}
use Rattle.ts_langfile.proofs.symbols.supertypes.Goals as goal

pub loop-preserved : goal.loop-preserved
loop-preserved c = rw (c.in_ok-push.ensures.ok, c.from-least.ensures) (in_turn_next (supertype_at c.args.tokens.now c.args.rules.now) behind_symbol c.loop.symbols c.args.count c.loop.counter c.loop.least c.loop.rest.now c.in_ok-symbol.symbol c.in_ok-symbol.after.now (in_turn (supertype_at c.args.tokens.now c.args.rules.now) behind_symbol c.args.count 1 c.args.bytes.now) c.loop-test.true c.in_ok-symbol.ensures c.loop.invariant)
