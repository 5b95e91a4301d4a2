use Rattle.std.proofs.Common.{◌≤◌, length, drop}
use Rattle.ts_steps.specs.Making.{IsSeenOf}
use Rattle.ts_steps.proofs.making.seen_over.Given as goal

abbrev pub invariant-loop-left : goal.invariant-loop-left
invariant-loop-left l = record {
  within : l.left ≤ length l.nodes;
  seen : IsSeenOf (drop l.left l.nodes) l.behind l.seen;
}

abbrev pub decreases-loop-left : goal.decreases-loop-left
decreases-loop-left l = l.left
