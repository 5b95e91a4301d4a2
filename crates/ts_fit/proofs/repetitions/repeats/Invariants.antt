use Rattle.std.proofs.Common.{◌≡◌, ◌≤◌, map, take, drop}
use Rattle.spec_tables.specs.Fit.{again_after}
use Rattle.ts_fit.proofs.repetitions.repeats.Given as goal

abbrev pub invariant-loop-place : goal.invariant-loop-place
invariant-loop-place l = (l.place ≤ l.half) × (take l.place (drop l.half l.productions) ≡ map (again_after l.symbol) (take l.place l.productions))
