use Rattle.ts_search.specs.Table.{AreSilentWays}
use Rattle.ts_search.proofs.SilentLemmas.{each_all, each_more, each_none}
use Rattle.ts_search.proofs.silent.is_silent_row.Goals as goal

pub loop-ways-init : goal.loop-ways-init
loop-ways-init c = each_none AreSilentWays

pub loop-ways-preserved : goal.loop-ways-preserved
loop-ways-preserved c =
    each_more AreSilentWays c.args.row.now c.loop-ways.ways-index c.ways-item.result c.loop-ways-test.true c.ways-item.is c.loop-ways.invariant ((rw c.as_slice.ensures at c.are_silent_ways.ensures) c.if-not-are_silent_ways.false)

pub returns : goal.returns
returns c = λ h. each_all AreSilentWays c.args.row.now c.loop-ways.ways-index c.loop-ways-test.false c.loop-ways.invariant
