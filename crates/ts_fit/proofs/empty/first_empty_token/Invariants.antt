use Rattle.ts_fit.specs.Misfits.{IsEmptyToken}
use Rattle.ts_fit.proofs.ListLemmas.{NoneBefore}
use Rattle.ts_fit.proofs.empty.first_empty_token.Given as goal

abbrev pub invariant-loop-place : goal.invariant-loop-place
invariant-loop-place l = NoneBefore (IsEmptyToken l.grammar) l.place
