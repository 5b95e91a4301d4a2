use Rattle.std.proofs.Common.{◌≡◌, ◌≤◌, ◌+◌}
use Rattle.ts_shelf.proofs.tests.meet.Given as goal

abbrev pub invariant-loop : goal.invariant-loop
invariant-loop g l = record {
  shelf : l.pass.shelf ≡ l.shelf;
  first : l.pass.knows.first ≡ 0;
  offers : 2 ≤ l.pass.knows.offers + l.counter;
}

abbrev pub invariant-loop-2 : goal.invariant-loop-2
invariant-loop-2 g l = record {
  shelf : l.pass.shelf ≡ l.shelf;
  first : l.pass.knows.first ≡ 0;
}
