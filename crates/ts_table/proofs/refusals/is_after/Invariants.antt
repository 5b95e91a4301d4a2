use Rattle.ts_table.proofs.RefusalLemmas.{LeftCompares}
use Rattle.ts_table.proofs.refusals.is_after.Given as goal

abbrev pub invariant-loop-at : goal.invariant-loop-at
invariant-loop-at l = LeftCompares l.a l.b l.at
