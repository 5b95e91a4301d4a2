use Rattle.std.proofs.Common.{◌≡◌, ◌++◌, length, take}
use Rattle.std.specs.List.{flat_map}
use Rattle.ts_langfile.specs.Spelling.{number32, step}
use Rattle.ts_langfile.proofs.writer.put_steps.Given as goal

abbrev pub invariant-loop-step : goal.invariant-loop-step
invariant-loop-step l = l.out.items ≡ (l.fn.out.items ++ number32 (length l.steps)) ++ flat_map step (take l.step-index l.steps)
