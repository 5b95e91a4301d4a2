use Rattle.std.proofs.Common.{◌≡◌, ◌≤◌, ◌+◌}
use Rattle.ts_shelf.specs.Passes.{IsPass}
use Rattle.ts_shelf.proofs.tests.work.Given as goal

abbrev pub invariant-loop : goal.invariant-loop
invariant-loop g l = record {
  shelf : l.pass.shelf ≡ l.shelf;
  first : l.pass.knows.first ≡ 0;
  pass : IsPass (λ opening item. opening ≤ item) l.pass.knows;
  offers : 1000 ≤ l.pass.knows.offers + l.counter;
}
