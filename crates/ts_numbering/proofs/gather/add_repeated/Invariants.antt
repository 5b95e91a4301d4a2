use Rattle.std.proofs.Common.{◌≡◌, ◌++◌, take}
use Rattle.ts_rules.specs.Sights.{seen_trees}
use Rattle.ts_numbering.specs.Keys.{trees, repeated_in}
use Rattle.ts_numbering.proofs.gather.add_repeated.Given as goal

abbrev pub invariant-loop-spot : goal.invariant-loop-spot
invariant-loop-spot l = trees l.found.items ≡ trees l.initial.found.items ++ repeated_in (seen_trees (take l.spot-index l.spots))
