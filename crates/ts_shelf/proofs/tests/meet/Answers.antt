use Rattle.std.proofs.Common.{arith}
use Rattle.ts_shelf.proofs.LatestLemmas.{above_latest_fits}
use Rattle.ts_shelf.proofs.tests.meet.Goals as goal

pub offer-requires-clause-fits : goal.offer-requires-clause-fits
offer-requires-clause-fits g c =
    above_latest_fits c.look.new.pass.knows c.in-Ok.seen.latest c.in-Ok.seen.latest c.look.ensures.pass
    c.in-Ok.ensures.latest (omega arith)
