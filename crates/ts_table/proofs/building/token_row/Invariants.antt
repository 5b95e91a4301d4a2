use Rattle.std.proofs.Common.{[]}
use Rattle.ts_items.specs.Closing.{AddsSets}
use Rattle.ts_table.specs.Rows.{HoldsList, AreListPlaces, IsLeastTo}
use Rattle.ts_table.proofs.building.token_row.Given as goal

abbrev pub invariant-loop-token : goal.invariant-loop-token
invariant-loop-token l = record {
  grows : AddsSets l.initial.lists.keys l.lists.keys;
  row : AreListPlaces l.grammar l.items l.set.at l.lists.keys l.token l.row.items;
  idle : HoldsList l.lists.keys l.idle [];
  least : IsLeastTo l.grammar l.items l.set.at 0 l.initial.least → IsLeastTo l.grammar l.items l.set.at l.token l.least;
}
