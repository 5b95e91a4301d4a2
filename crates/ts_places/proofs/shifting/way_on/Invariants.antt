use Rattle.std.proofs.Common.{take}
use Rattle.ts_places.proofs.ActionLemmas.{HasNoShift}
use Rattle.ts_places.proofs.shifting.way_on.Given as goal

abbrev pub invariant-loop-action : goal.invariant-loop-action
invariant-loop-action l = HasNoShift (take l.action-index l.actions)
