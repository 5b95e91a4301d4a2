use Rattle.std.proofs.Common.{◌≡◌, ◌≤◌, length}
use Rattle.ts_marks.specs.Passing.{left_of}
use Rattle.ts_marks.proofs.passed.Passed.up_to.Given as goal

abbrev pub invariant-loop-passed : goal.invariant-loop-passed
invariant-loop-passed l = record {
  edit : l.passed.edit.now ≡ l.self.edit.now;
  from : l.passed.from ≤ l.place;
}

abbrev pub decreases-loop-passed : goal.decreases-loop-passed
decreases-loop-passed l = length (left_of l.passed)
