use Rattle.std.proofs.Common.{take}
use Rattle.ts_rules.specs.FirstSights.{AreFirstSights}
use Rattle.ts_rules.specs.Names.{told}
use Rattle.ts_rules.proofs.numbered.first_sights.Given as goal

abbrev pub invariant-loop-name : goal.invariant-loop-name
invariant-loop-name l = AreFirstSights (told (take l.name-index l.seen)) (told l.found.keys)
