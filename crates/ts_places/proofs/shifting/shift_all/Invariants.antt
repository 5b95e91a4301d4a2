use Rattle.std.proofs.Common.{ℕ}
use Rattle.ts_base.specs.Bytes.{Bytes}
use Rattle.ts_reductions.specs.Sound.{Base}
use Rattle.ts_places.specs.Shifting.{AreAllSights, AreShiftedUpTo}
use Rattle.ts_places.proofs.shifting.shift_all.Given as goal

abbrev pub invariant-loop-place : goal.invariant-loop-place
invariant-loop-place l =
    (text : Bytes) (base : Base) (look : ℕ) → AreAllSights l.table text base l.initial.graph look l.sights → AreShiftedUpTo l.table text base l.initial.graph l.graph look l.sights.tops.items l.place
