use Rattle.std.proofs.Common.{◌≡◌, length}
use Rattle.ts_automata.specs.Sets.{EachAt}
use Rattle.ts_automata.specs.Classes.{IsClassOf}
use Rattle.ts_automata.proofs.classes.ascii_of.Given as goal

abbrev pub invariant-loop-c : goal.invariant-loop-c
invariant-loop-c l = record {
  count : length l.ascii.items ≡ l.c;
  each : EachAt (λ c k. IsClassOf l.bounds c k) l.ascii.items;
}
