use Rattle.std.proofs.Common.{◌≡◌, take}
use Rattle.ts_table.specs.Marks.{marks_in}
use Rattle.ts_table.proofs.marks.marks_of.Given as goal

abbrev pub invariant-loop-step : goal.invariant-loop-step
invariant-loop-step l = l.marks.items ≡ marks_in (take l.step-index l.steps)
