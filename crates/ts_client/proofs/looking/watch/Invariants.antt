use Rattle.std.proofs.Common.{◌≡◌}
use Rattle.ts_shelf.specs.Passes.{IsPass}
use Rattle.ts_docs.specs.Versions.{IsOfTable}
use Rattle.ts_client.specs.Looks.{SawLast}
use Rattle.ts_client.specs.Turns.{SamePass}
use Rattle.ts_client.proofs.looking.watch.Given as goal

abbrev pub invariant-loop : goal.invariant-loop
invariant-loop g l = record {
  shelf : l.pass.shelf ≡ l.fn.pass.shelf;
  pass : IsPass IsOfTable l.pass.knows;
  same : SamePass l.fn.pass.knows l.pass.knows;
  offers : l.pass.knows.offers ≡ l.fn.pass.knows.offers;
  saw : SawLast l.fn.pass.knows l.pass.knows l.counter l.seen;
}
