use Rattle.std.proofs.Common.{take}
use Rattle.ts_places.specs.Frontiers.{IsLeastPlace}
use Rattle.ts_places.proofs.frontier.least_place.Given as goal

abbrev pub invariant-loop-number : goal.invariant-loop-number
invariant-loop-number l = IsLeastPlace l.graph (take l.number-index l.heads) l.least
