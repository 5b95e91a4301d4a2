use Rattle.std.proofs.Common.{take}
use Rattle.ts_search.specs.Table.{IsSilentRow}
use Rattle.ts_search.proofs.silent.is_silent_row.Given as goal

abbrev pub invariant-loop-ways : goal.invariant-loop-ways
invariant-loop-ways l = IsSilentRow (take l.ways-index l.row)
