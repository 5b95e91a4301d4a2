use Rattle.std.proofs.Common.{◌≡◌, ◌-◌, ◌≤◌, take}
use Rattle.ts_text.proofs.text.are_same.Given as goal

abbrev pub invariant-loop-place : goal.invariant-loop-place
invariant-loop-place l = (l.place ≤ l.length) × (take l.place l.one ≡ take l.place l.other)

abbrev pub decreases-loop-place : goal.decreases-loop-place
decreases-loop-place l = l.length - l.place
