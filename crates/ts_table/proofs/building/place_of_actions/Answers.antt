use Rattle.std.proofs.Common.{sym}
use Rattle.ts_table.proofs.SortLemmas.{same_row}
use Rattle.ts_table.proofs.building.place_of_actions.Goals as goal

pub returns-clause-place : goal.returns-clause-place
returns-clause-place c = let s = c.in_ok-place.ensures.stored in (s.0, s.1, sym (same_row c.args.row s.0 s.2))
