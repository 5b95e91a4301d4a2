use Rattle.ts_crossing.proofs.WalkLemmas.{Passed}
use Rattle.ts_crossing.proofs.entering.under_extras.Given as goal

abbrev pub invariant-loop-node : goal.invariant-loop-node
invariant-loop-node l = Passed l.stacks l.fn.head l.top l.place

abbrev pub decreases-loop-node : goal.decreases-loop-node
decreases-loop-node l = l.top
