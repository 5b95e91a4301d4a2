use Rattle.std.proofs.Common.{◌≡◌, ◌++◌, ◌+◌, ◌*◌, length, take}
use Rattle.std.specs.List.{flat_map}
use Rattle.ts_productions.specs.Expansions.{onward}
use Rattle.ts_productions.specs.Sizes.{look}
use Rattle.ts_productions.proofs.spread.+spread.Given as goal

abbrev pub decreases-spread_steps : goal.decreases-spread_steps
decreases-spread_steps l = 3 * length l.rest.now

abbrev pub decreases-spread_step : goal.decreases-spread_step
decreases-spread_step l = 3 * length l.after.now + 2

abbrev pub decreases-spread_each : goal.decreases-spread_each
decreases-spread_each l = 3 * length l.after.now + 1

abbrev pub invariant-spread_each-loop-expansion : goal.invariant-spread_each-loop-expansion
invariant-spread_each-loop-expansion l =
    (l.growth.found ≡ l.initial.growth.found ++ flat_map (onward (look l.inlined) l.head.dynamic l.initial.growth.steps.items l.step l.after) (take l.expansion-index l.inner))
    × (l.growth.steps.items ≡ l.initial.growth.steps.items)
