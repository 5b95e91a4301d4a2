use Rattle.std.proofs.Common.{map, take}
use Rattle.ts_rules.specs.FirstSights.{AreFirstSights}
use Rattle.ts_productions.specs.Flat.{flat}
use Rattle.ts_productions.proofs.flat.first_sights.Given as goal

abbrev pub invariant-loop-expansion : goal.invariant-loop-expansion
invariant-loop-expansion l = AreFirstSights (map (flat l.aliases) (take l.expansion-index l.expansions)) l.found.keys
