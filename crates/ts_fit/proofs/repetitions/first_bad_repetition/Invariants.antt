use Rattle.ts_fit.proofs.RepeatLemmas.{FormedBefore}
use Rattle.ts_fit.proofs.repetitions.first_bad_repetition.Given as goal

abbrev pub invariant-loop-place : goal.invariant-loop-place
invariant-loop-place l = FormedBefore l.grammar l.place
