use Rattle.std.proofs.Common.{◌≡◌, length}
use Rattle.ts_seq.proofs.tests.numbers.Given as goal

abbrev pub invariant-loop-n : goal.invariant-loop-n
invariant-loop-n l = length l.seq ≡ l.n
