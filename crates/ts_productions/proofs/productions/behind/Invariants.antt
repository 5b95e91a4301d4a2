use Rattle.std.proofs.Common.{◌≡◌, ◌∷◌, take}
use Rattle.ts_rules.specs.Alternatives.{step_at}
use Rattle.ts_rules.specs.Numbers.{outermost}
use Rattle.ts_productions.proofs.productions.behind.Given as goal

abbrev pub invariant-loop-step : goal.invariant-loop-step
invariant-loop-step l = l.steps ≡ step_at l.repetition outermost ∷ take l.step-index l.after.steps
