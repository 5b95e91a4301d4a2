use Rattle.std.proofs.Common.{ℕ, ◌<◌, ◌≤◌}
use Rattle.ts_search.specs.Next.{TakesIn}
use Rattle.ts_search.proofs.next.next_place.Given as goal

abbrev pub invariant-loop-place : goal.invariant-loop-place
invariant-loop-place l = (j : ℕ) → l.from ≤ j → j < l.place → TakesIn l.row l.capturing j → ⊥
