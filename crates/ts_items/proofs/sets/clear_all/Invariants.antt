use Rattle.ts_items.proofs.GainLemmas.{Emptied}
use Rattle.ts_items.proofs.sets.clear_all.Given as goal

abbrev pub invariant-loop-at : goal.invariant-loop-at
invariant-loop-at l = Emptied l.initial.sets l.sets l.at
