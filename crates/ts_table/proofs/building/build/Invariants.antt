use Rattle.ts_table.specs.Rows.{AreRowsTo, IsLeastTo}
use Rattle.ts_table.proofs.building.build.Given as goal

abbrev pub invariant-loop-at : goal.invariant-loop-at
invariant-loop-at l = record {
  rows : AreRowsTo l.grammar l.items l.arrays l.at;
  least : IsLeastTo l.grammar l.items l.at 0 l.least;
}
