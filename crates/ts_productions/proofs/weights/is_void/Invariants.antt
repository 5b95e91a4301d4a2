use Rattle.std.proofs.Common.{◌≤◌, take}
use Rattle.ts_productions.specs.Sizes.{many_of, weigh}
use Rattle.ts_productions.proofs.weights.is_void.Given as goal

abbrev pub invariant-loop-step : goal.invariant-loop-step
invariant-loop-step l = 1 ≤ weigh (many_of l.weights) (take l.step-index l.steps)
