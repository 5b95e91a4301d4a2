use Rattle.std.proofs.Common.{take}
use Rattle.ts_search.specs.Table.{AreSilentWays}
use Rattle.ts_search.proofs.silent.are_silent_ways.Given as goal

abbrev pub invariant-loop-way : goal.invariant-loop-way
invariant-loop-way l = AreSilentWays (take l.way-index l.ways)
