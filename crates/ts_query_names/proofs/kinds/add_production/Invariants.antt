use Rattle.std.proofs.Common.{◌≡◌, take}
use Rattle.std.specs.List.{flat_map}
use Rattle.ts_core.specs.declared.flat.Step.{Step}
use Rattle.ts_query_names.specs.Kinds.{kind_eq, with_new, alias_kind}
use Rattle.ts_query_names.specs.LentNames.{kinds_told}
use Rattle.ts_query_names.proofs.kinds.add_production.Given as goal

abbrev pub invariant-loop-step : goal.invariant-loop-step
invariant-loop-step l = kinds_told l.found.keys ≡ with_new kind_eq (kinds_told l.initial.found.keys) (flat_map (λ (step : Step). alias_kind step.alias) (take l.step-index l.production.steps))
