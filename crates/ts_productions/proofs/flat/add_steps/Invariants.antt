use Rattle.std.proofs.Common.{◌≡◌, ◌++◌, map, take}
use Rattle.ts_rules.specs.Productions.{flat_step}
use Rattle.ts_productions.specs.Flat.{aliased}
use Rattle.ts_productions.proofs.flat.add_steps.Given as goal

abbrev pub invariant-loop-step : goal.invariant-loop-step
invariant-loop-step l = l.steps ≡ l.initial.steps ++ map (flat_step (aliased l.aliases)) (take l.step-index l.more)
