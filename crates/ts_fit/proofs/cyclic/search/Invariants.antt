use Rattle.spec_tables.specs.Fit.{IsCyclic}
use Rattle.ts_fit.proofs.ListLemmas.{NoneBefore}
use Rattle.ts_fit.proofs.cyclic.search.Given as goal

abbrev pub invariant-loop-place : goal.invariant-loop-place
invariant-loop-place l = NoneBefore (IsCyclic l.grammar) l.place
