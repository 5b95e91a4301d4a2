use Rattle.std.proofs.Common.{drop}
use Rattle.ts_table.proofs.OrderingLemmas.{LeftDecides}
use Rattle.ts_table.proofs.orderings.by_orderings.Given as goal

abbrev pub invariant-loop-ordering : goal.invariant-loop-ordering
invariant-loop-ordering l = LeftDecides l.orderings (drop l.ordering-index l.orderings) l.a l.b
