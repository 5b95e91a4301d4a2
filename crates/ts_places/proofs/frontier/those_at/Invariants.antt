use Rattle.std.proofs.Common.{take}
use Rattle.ts_places.specs.Frontiers.{AreThoseAt}
use Rattle.ts_places.proofs.frontier.those_at.Given as goal

abbrev pub invariant-loop-number : goal.invariant-loop-number
invariant-loop-number l = AreThoseAt l.graph l.place (take l.number-index l.heads) l.here.items
