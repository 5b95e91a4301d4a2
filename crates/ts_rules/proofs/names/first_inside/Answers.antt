use Rattle.ts_rules.proofs.InsideLemmas.{inside_first, inside_none}
use Rattle.ts_rules.proofs.names.first_inside.Goals as goal

pub returns-in-Some : goal.returns-in-Some
returns-in-Some c =
    inside_first c.args.walk.now c.loop-spot.spot-index c.spot-item.result c.in-Some.name c.loop-spot-test.true c.spot-item.is c.in-Some.ensures c.loop-spot.invariant

pub returns : goal.returns
returns c = inside_none c.args.walk.now c.loop-spot.spot-index c.loop-spot-test.false c.loop-spot.invariant
