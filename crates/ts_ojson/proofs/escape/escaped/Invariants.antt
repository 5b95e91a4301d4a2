use Rattle.std.proofs.Common.{◌≤◌, ◌-◌, length}
use Rattle.ts_base.specs.Bytes.{Bytes}
use Rattle.ts_ojson.specs.declared.escape.Escape.TheVariants.{Backslash}
use Rattle.ts_ojson.specs.Machine.{Frames}
use Rattle.ts_ojson.specs.Roles.{Role}
use Rattle.ts_ojson.specs.States.{text}
use Rattle.ts_ojson.specs.Strings.{IsInside}
use Rattle.ts_ojson.specs.Places.{Reaches}
use Rattle.ts_ojson.proofs.escape.escaped.Given as goal

abbrev pub invariant-loop-more : goal.invariant-loop-more
invariant-loop-more l = record {
  within : (l.from ≤ l.at) × (l.at ≤ length l.text);
  inside : IsInside l.escape;
  reaches : (s : Bytes) (role : Role) (k : Frames) → Reaches l.text l.from (text Backslash s role) k → Reaches l.text l.at (text l.escape s role) k;
}

abbrev pub decreases-loop-more : goal.decreases-loop-more
decreases-loop-more l = length l.text - l.at
