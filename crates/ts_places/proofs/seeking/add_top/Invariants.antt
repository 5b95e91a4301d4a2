use Rattle.std.proofs.Common.{take}
use Rattle.ts_places.specs.declared.seeking.Seek.{Seek}
use Rattle.ts_places.specs.Seeking.{AddsDue}
use Rattle.ts_places.proofs.DueLemmas.{OfActions}
use Rattle.ts_places.proofs.seeking.add_top.Given as goal

abbrev pub invariant-loop-action : goal.invariant-loop-action
invariant-loop-action l = (seek : Seek) → AddsDue l.table l.graph seek (OfActions l.top (take l.action-index l.action-items)) l.initial.dues.items l.dues.items
