use Rattle.std.proofs.Common.{take}
use Rattle.ts_search.specs.Table.{AreSilentRows}
use Rattle.ts_search.proofs.silent.are_silent_rows.Given as goal

abbrev pub invariant-loop-row : goal.invariant-loop-row
invariant-loop-row l = AreSilentRows (take l.row-index l.rows)
