use Rattle.std.proofs.Common.{◌≡◌, [], take}
use Rattle.ts_rules.specs.Sights.{symbols_inside, seen_trees}
use Rattle.ts_rules.proofs.names.first_inside.Given as goal

abbrev pub invariant-loop-spot : goal.invariant-loop-spot
invariant-loop-spot l = symbols_inside (seen_trees (take l.spot-index l.walk)) ≡ []
