use Rattle.std.proofs.Common.{◌<◌, ◌≤◌, ◌-◌, ◌+◌, length, get_or, [], ◌∷◌}
use Rattle.std.specs.Str.{IsCharBoundary}
use Rattle.ts_ojson.specs.Machine.{Frames}
use Rattle.ts_ojson.specs.States.{number}
use Rattle.ts_ojson.specs.Places.{between, Reaches}
use Rattle.ts_ojson.proofs.number.number_end.Given as goal

abbrev pub invariant-loop-next : goal.invariant-loop-next
invariant-loop-next l = record {
  within : (l.from < l.at) × (l.at ≤ length l.text);
  boundary : IsCharBoundary l.text l.at;
  reaches : (k : Frames) → Reaches l.text (l.from + 1) (number l.fn.first (get_or l.text l.from 0 ∷ [])) k → Reaches l.text l.at (number l.part (between l.text l.from l.at)) k;
}

abbrev pub decreases-loop-next : goal.decreases-loop-next
decreases-loop-next l = length l.text - l.at
