use Rattle.std.proofs.Common.{take}
use Rattle.ts_entries.specs.Owners.{AreOwned}
use Rattle.ts_entries.proofs.owners.mark.Given as goal

abbrev pub invariant-loop-place : goal.invariant-loop-place
invariant-loop-place l = AreOwned (take l.place-index l.places) l.owner l.initial.owners l.owners
