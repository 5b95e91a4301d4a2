use Rattle.std.proofs.Common.{◌≡◌, suc, ◌+◌, ◌*◌, ◌≤◌, ◌-◌, length, ◌∷◌}
use Rattle.ts_ojson.specs.Machine.{Frames}
use Rattle.ts_ojson.specs.Frames as frame
use Rattle.ts_ojson.specs.States as state
use Rattle.ts_ojson.specs.Json.{most_deep}
use Rattle.ts_ojson.specs.Places.{Reaches, Starts, Named}
use Rattle.ts_ojson.proofs.tree.+value.Given as goal

abbrev pub decreases-array : goal.decreases-array
decreases-array l = 2 * l.room + 2

abbrev pub decreases-object : goal.decreases-object
decreases-object l = 2 * l.room + 2

abbrev pub decreases-value : goal.decreases-value
decreases-value l = 2 * l.room + 1

abbrev pub invariant-array-loop-items : goal.invariant-array-loop-items
invariant-array-loop-items l = record {
  within : (l.from ≤ l.at) × (l.at ≤ length l.text);
  starts : (k : Frames) → suc (length k) + l.room ≡ most_deep → Reaches l.text l.from state.first_item k → Starts l.text l.at (frame.array l.items ∷ k);
}

abbrev pub decreases-array-loop-items : goal.decreases-array-loop-items
decreases-array-loop-items l = length l.text - l.at

abbrev pub invariant-object-loop-claimed : goal.invariant-object-loop-claimed
invariant-object-loop-claimed l = record {
  within : (l.from ≤ l.at) × (l.at ≤ length l.text);
  named : (k : Frames) → suc (length k) + l.room ≡ most_deep → Reaches l.text l.from state.first_name k → Named l.text l.at l.members k;
}

abbrev pub decreases-object-loop-claimed : goal.decreases-object-loop-claimed
decreases-object-loop-claimed l = length l.text - l.at
