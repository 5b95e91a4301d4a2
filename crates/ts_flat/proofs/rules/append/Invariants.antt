use Rattle.std.proofs.Common.{◌≡◌, ◌++◌}
use Rattle.ts_flat.proofs.rules.append.Given as goal

abbrev pub invariant-loop-rule : goal.invariant-loop-rule
invariant-loop-rule l = l.rules ≡ l.initial.rules ++ l.yielded
