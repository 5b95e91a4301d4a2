use Rattle.std.proofs.Common.{take}
use Rattle.ts_rules.specs.FirstSights.{AreFirstSights}
use Rattle.ts_numbering.specs.Keys.{aliases_told}
use Rattle.ts_numbering.proofs.gather.first_aliases.Given as goal

abbrev pub invariant-loop-alias : goal.invariant-loop-alias
invariant-loop-alias l = AreFirstSights (aliases_told (take l.alias-index l.seen)) (aliases_told l.found.keys)
