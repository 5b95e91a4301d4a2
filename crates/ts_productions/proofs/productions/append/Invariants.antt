use Rattle.std.proofs.Common.{◌≡◌, ◌++◌}
use Rattle.ts_productions.proofs.productions.append.Given as goal

abbrev pub invariant-loop-production : goal.invariant-loop-production
invariant-loop-production l = l.found ≡ l.initial.found ++ l.yielded
