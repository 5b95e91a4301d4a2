use Rattle.std.proofs.Common.{take}
use Rattle.ts_places.specs.Frontiers.{AreThosePast}
use Rattle.ts_places.proofs.frontier.those_past.Given as goal

abbrev pub invariant-loop-number : goal.invariant-loop-number
invariant-loop-number l = AreThosePast l.graph l.place (take l.number-index l.heads) l.past.items
