use Rattle.std.proofs.Common.{take}
use Rattle.ts_places.specs.declared.seeking.Seek.{Seek}
use Rattle.ts_places.specs.Seeking.{OfTops, AddsDue}
use Rattle.ts_places.proofs.seeking.add_dues.Given as goal

abbrev pub invariant-loop-top : goal.invariant-loop-top
invariant-loop-top l = (seek : Seek) → AddsDue l.table l.graph seek (OfTops (take l.top-index l.tops)) l.initial.dues.items l.dues.items
