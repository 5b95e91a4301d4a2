use Rattle.spec_tables.specs.Fit.{IsEmptyRule}
use Rattle.ts_fit.proofs.ListLemmas.{NoneBefore}
use Rattle.ts_fit.proofs.empty.first_empty_rule.Given as goal

abbrev pub invariant-loop-place : goal.invariant-loop-place
invariant-loop-place l = NoneBefore (IsEmptyRule l.grammar) l.place
