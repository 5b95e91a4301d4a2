use Rattle.std.proofs.Common.{◌≤◌, ◌-◌, length}
use Rattle.ts_ojson.specs.Places.{ArePlain}
use Rattle.ts_ojson.proofs.byte.plain_end.Given as goal

abbrev pub invariant-loop-at : goal.invariant-loop-at
invariant-loop-at l = (l.from ≤ l.at) × (l.at ≤ length l.bytes) × ArePlain l.bytes l.from l.at

abbrev pub decreases-loop-at : goal.decreases-loop-at
decreases-loop-at l = length l.bytes - l.at
