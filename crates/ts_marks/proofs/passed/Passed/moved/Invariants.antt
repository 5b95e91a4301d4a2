use Rattle.std.proofs.Common.{◌≡◌, length}
use Rattle.ts_marks.specs.Passing.{IsTowards, left_of}
use Rattle.ts_marks.proofs.passed.Passed.moved.Given as goal

abbrev pub invariant-loop-passed : goal.invariant-loop-passed
invariant-loop-passed l = record {
  towards : IsTowards l.passed l.place;
  edit : l.passed.edit.now ≡ l.self.edit.now;
}

abbrev pub decreases-loop-passed : goal.decreases-loop-passed
decreases-loop-passed l = length (left_of l.passed)
