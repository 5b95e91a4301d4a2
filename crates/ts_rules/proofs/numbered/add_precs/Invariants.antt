use Rattle.std.proofs.Common.{◌≡◌, ◌++◌, take}
use Rattle.ts_rules.specs.Sights.{precs_in, seen_trees}
use Rattle.ts_rules.specs.Names.{told}
use Rattle.ts_rules.proofs.numbered.add_precs.Given as goal

abbrev pub invariant-loop-spot : goal.invariant-loop-spot
invariant-loop-spot l = told l.names.items ≡ told l.initial.names.items ++ precs_in (seen_trees (take l.spot-index l.spots))
