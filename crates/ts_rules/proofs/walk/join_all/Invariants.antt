use Rattle.std.proofs.Common.{◌≡◌, ◌≤◌, drop, length}
use Rattle.ts_rules.specs.Alternatives.{sequence}
use Rattle.ts_rules.proofs.walk.join_all.Given as goal

abbrev pub invariant-loop-left : goal.invariant-loop-left
invariant-loop-left l = (l.left ≤ length l.parts) × (l.found ≡ sequence (drop l.left l.parts))

abbrev pub decreases-loop-left : goal.decreases-loop-left
decreases-loop-left l = l.left
