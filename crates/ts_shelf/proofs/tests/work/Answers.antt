use Rattle.ts_shelf.proofs.LatestLemmas.{above_latest_fits}
use Rattle.ts_shelf.proofs.tests.work.Goals as goal

pub offer-requires-clause-fits : goal.offer-requires-clause-fits
offer-requires-clause-fits g c =
    above_latest_fits c.look.new.pass.knows c.in-Ok.seen.latest c.above.result c.look.ensures.pass
    c.in-Ok.ensures.latest c.above.ensures
