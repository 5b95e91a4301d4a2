use Rattle.std.proofs.Common.{take}
use Rattle.ts_rules.specs.FirstSights.{AreFirstSights}
use Rattle.ts_rules.specs.Names.{told}
use Rattle.ts_numbering.proofs.survey.name_set.Given as goal

abbrev pub invariant-loop-name : goal.invariant-loop-name
invariant-loop-name l = AreFirstSights (take l.name-index l.names) (told l.found.keys)
