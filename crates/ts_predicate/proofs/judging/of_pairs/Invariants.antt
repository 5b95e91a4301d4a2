use Rattle.ts_predicate.specs.Asking.{PairsLeaveOpen}
use Rattle.ts_predicate.proofs.judging.of_pairs.Given as goal

abbrev pub invariant-loop-k : goal.invariant-loop-k
invariant-loop-k l = PairsLeaveOpen l.predicate.some l.predicate.negated l.k l.texts l.others
