use Rattle.std.proofs.Common.{◌≡◌, ◌+◌, ◌-◌, ◌≤◌}
use Rattle.ts_text.specs.Point.{point_of}
use Rattle.ts_text.proofs.point.advance.Given as goal

abbrev pub invariant-loop-place : goal.invariant-loop-place
invariant-loop-place l = (l.place ≤ l.to) × (l.at ≡ point_of l.text l.place)

abbrev pub decreases-loop-place : goal.decreases-loop-place
decreases-loop-place l = l.to - l.place

abbrev pub invariant-loop-k : goal.invariant-loop-k
invariant-loop-k l = l.at ≡ point_of l.text (l.place + l.k)
