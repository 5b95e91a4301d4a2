use Rattle.ts_items.proofs.GainLemmas.{Empties}
use Rattle.ts_items.proofs.sets.empty_sets.Given as goal

abbrev pub invariant-loop : goal.invariant-loop
invariant-loop l = Empties l.width l.sets.items l.counter
