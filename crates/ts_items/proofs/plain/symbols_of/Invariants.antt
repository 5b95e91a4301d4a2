use Rattle.std.proofs.Common.{◌≡◌, take}
use Rattle.ts_items.specs.Productions.{symbols_of_steps}
use Rattle.ts_items.proofs.plain.symbols_of.Given as goal

abbrev pub invariant-loop-step : goal.invariant-loop-step
invariant-loop-step l = l.symbols.items ≡ symbols_of_steps (take l.step-index l.steps)
