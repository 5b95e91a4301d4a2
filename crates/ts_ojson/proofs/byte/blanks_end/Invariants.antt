use Rattle.std.proofs.Common.{◌≤◌, ◌-◌, length}
use Rattle.ts_ojson.specs.Places.{AreBlank}
use Rattle.ts_ojson.proofs.byte.blanks_end.Given as goal

abbrev pub invariant-loop-at : goal.invariant-loop-at
invariant-loop-at l = (l.from ≤ l.at) × (l.at ≤ length l.text) × AreBlank l.text l.from l.at

abbrev pub decreases-loop-at : goal.decreases-loop-at
decreases-loop-at l = length l.text - l.at
