use Rattle.std.proofs.Common.{◌≡◌, ◌++◌, drop, length, ◌-◌}
use Rattle.ts_rules.specs.Alternatives.{last_left}
use Rattle.ts_rules.proofs.walk.leave_last.Given as goal

abbrev pub invariant-loop-next : goal.invariant-loop-next
invariant-loop-next l = last_left l.around l.steps ≡ l.made ++ last_left l.around (drop l.next l.steps)

abbrev pub decreases-loop-next : goal.decreases-loop-next
decreases-loop-next l = length l.steps - l.next
