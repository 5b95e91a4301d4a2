use Rattle.std.proofs.Common.{◌≡◌, ◌++◌, map, take}
use Rattle.ts_rules.specs.Productions.{marked_by}
use Rattle.ts_productions.proofs.spread.insert.Given as goal

abbrev pub invariant-loop-added : goal.invariant-loop-added
invariant-loop-added l = l.steps.items ≡ l.initial.steps.items ++ map (marked_by l.step) (take l.added-index l.inner)
