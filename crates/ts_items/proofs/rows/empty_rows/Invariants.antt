use Rattle.ts_items.proofs.EachLemmas.{Empties}
use Rattle.ts_items.proofs.rows.empty_rows.Given as goal

abbrev pub invariant-loop : goal.invariant-loop
invariant-loop g l = Empties l.rows.items l.counter
