use Rattle.std.proofs.Common.{◌≡◌, ◌++◌}
use Rattle.ts_rules.proofs.walk.append.Given as goal

abbrev pub invariant-loop-alternative : goal.invariant-loop-alternative
invariant-loop-alternative l = l.found ≡ l.initial.found ++ l.yielded
