use Rattle.std.proofs.Common.{arith}
use Rattle.ts_offer.proofs.TopLemmas.{fit_is_top}
use Rattle.ts_offer.proofs.topmost.+topmost.Goals as goal

pub returns-then-is_fit : goal.returns-then-is_fit
returns-then-is_fit t c = fit_is_top c.args.node.now c.args.state (c.is_fit.ensures.0 c.if-is_fit.true)

pub topmost-requires : goal.topmost-requires
topmost-requires t c = omega (arith, c.decreases, c.in-Some.ensures.falls)
