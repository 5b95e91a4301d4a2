use Rattle.std.proofs.Common.{◌≤◌, ◌-◌, length, drop}
use Rattle.std.specs.Str.{IsUtf8}
use Rattle.ts_lexer.specs.Scanned.{Stays}
use Rattle.ts_lexer.proofs.within.left_at.Given as goal

abbrev pub invariant-staying : goal.invariant-staying
invariant-staying l = record {
  rises : l.from ≤ l.place;
  within : l.place ≤ length l.text;
  utf8 : IsUtf8 (drop l.place l.text);
  stays : Stays l.machine l.set (drop l.from l.text) (drop l.place l.text);
}

abbrev pub decreases-staying : goal.decreases-staying
decreases-staying l = length l.text - l.place
