use Rattle.std.proofs.Common.{◌≡◌, take}
use Rattle.ts_predicate.proofs.judge.judges_of.Given as goal

abbrev pub invariant-loop-predicate : goal.invariant-loop-predicate
invariant-loop-predicate l = l.all.items ≡ take l.predicate-index l.predicates
