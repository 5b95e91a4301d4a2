use Rattle.std.proofs.Common.{take}
use Rattle.ts_places.specs.Nothing.{IsOverNothing}
use Rattle.ts_places.proofs.NothingLemmas.{HasNone}
use Rattle.ts_places.proofs.nothing.some_is_over_nothing.Given as goal

abbrev pub invariant-loop-action : goal.invariant-loop-action
invariant-loop-action l = HasNone (IsOverNothing l.table) (take l.action-index l.action-items)
