use Rattle.std.proofs.Common.{◌≡◌, take, map}
use Rattle.ts_rules.specs.Alternatives.{left}
use Rattle.ts_rules.proofs.walk.leave_all.Given as goal

abbrev pub invariant-loop-alternative : goal.invariant-loop-alternative
invariant-loop-alternative l = l.made ≡ map (left l.around) (take l.alternative-index l.found)
