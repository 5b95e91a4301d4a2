use Rattle.std.proofs.Common.{◌-◌, ◌≤◌, ◌<◌, length, get_or}
use Rattle.ts_automata.proofs.classes.class_by_search.Given as goal

abbrev pub invariant-loop-low : goal.invariant-loop-low
invariant-loop-low l = record {
  order : l.low < l.high;
  within : l.high ≤ length l.bounds;
  below : get_or l.bounds l.low 0 ≤ l.c;
  above : l.high < length l.bounds → l.c < get_or l.bounds l.high 0;
}

abbrev pub decreases-loop-low : goal.decreases-loop-low
decreases-loop-low l = l.high - l.low
