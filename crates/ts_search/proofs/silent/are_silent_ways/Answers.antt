use Rattle.std.proofs.Common.{◌≡◌, ap, List, length}
use Rattle.spec_matches.specs.declared.found.Capture.{Capture}
use Rattle.ts_search.proofs.SilentLemmas.{each_all, each_more, each_none}
use Rattle.ts_search.proofs.silent.are_silent_ways.Goals as goal

pub loop-way-init : goal.loop-way-init
loop-way-init c = each_none (λ (w : List Capture). length w ≡ 0)

pub loop-way-preserved : goal.loop-way-preserved
loop-way-preserved c = each_more (λ (w : List Capture). length w ≡ 0) c.args.ways.now c.loop-way.way-index c.way-item.result c.loop-way-test.true c.way-item.is c.loop-way.invariant (ap length (c.is_empty.ensures.0 c.if-not-is_empty.false))

pub returns : goal.returns
returns c = λ h. each_all (λ (w : List Capture). length w ≡ 0) c.args.ways.now c.loop-way.way-index c.loop-way-test.false c.loop-way.invariant
