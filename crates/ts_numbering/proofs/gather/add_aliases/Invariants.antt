use Rattle.std.proofs.Common.{◌≡◌, ◌++◌, take}
use Rattle.ts_rules.specs.Sights.{aliases_in, seen_trees}
use Rattle.ts_numbering.specs.Keys.{aliases_told}
use Rattle.ts_numbering.proofs.gather.add_aliases.Given as goal

abbrev pub invariant-loop-spot : goal.invariant-loop-spot
invariant-loop-spot l = aliases_told l.found.items ≡ aliases_told l.initial.found.items ++ aliases_in (seen_trees (take l.spot-index l.spots))
