use Rattle.std.proofs.Common.{◌-◌, ◌≤◌}
use Rattle.ts_search.specs.Steps.{NoneTaken}
use Rattle.ts_search.proofs.places.first_taken.Given as goal

pub record invariant-loop-place (l : goal.Live-loop-place) : Type 0 where
  pub low : l.fn.at.lo ≤ l.place
  pub none : NoneTaken l.siblings l.fn.at l.place

abbrev pub decreases-loop-place : goal.decreases-loop-place
decreases-loop-place l = l.count - l.place
