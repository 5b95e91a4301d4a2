use Rattle.std.proofs.Common.{take, ◌≡◌}
use Rattle.spec_matches.specs.Taking.{captured}
use Rattle.ts_search.specs.Rows.{seen_row}
use Rattle.ts_search.proofs.taking.captured.Given as goal

abbrev pub invariant-loop-name : goal.invariant-loop-name
invariant-loop-name l = l.all.items ≡ captured (take l.name-index l.names) l.fn.n (seen_row l.fn.row)
