use Rattle.std.proofs.Common.{◌≤◌, ◌-◌, length, drop}
use Rattle.ts_lexer.specs.Scanned.{Stays}
use Rattle.ts_lexer.proofs.scanning.end_of_stay.Given as goal

abbrev pub invariant-staying : goal.invariant-staying
invariant-staying l = record {
  rises : l.from ≤ l.place;
  within : l.place ≤ length l.bytes;
  stays : Stays l.machine l.set (drop l.from l.bytes) (drop l.place l.bytes);
}

abbrev pub decreases-staying : goal.decreases-staying
decreases-staying l = length l.bytes - l.place
