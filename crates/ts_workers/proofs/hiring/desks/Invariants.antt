use Rattle.std.proofs.Common.{◌≡◌, length}
use Rattle.ts_workers.specs.Fronts.{HaveLent}
use Rattle.ts_workers.proofs.hiring.desks.Given as goal

abbrev pub invariant-loop-document : goal.invariant-loop-document
invariant-loop-document l = record {
  lent : HaveLent l.steps l.initial.fronts l.fronts l.desks.items;
  count : length l.desks.items ≡ l.document;
}
