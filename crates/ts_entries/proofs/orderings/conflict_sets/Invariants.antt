use Rattle.std.proofs.Common.{take}
use Rattle.ts_numbering.specs.Numberings.{numbers_of}
use Rattle.ts_rules.specs.FirstSights.{Each}
use Rattle.ts_rules.specs.Normal.{AreSymbols}
use Rattle.ts_entries.proofs.orderings.conflict_sets.Given as goal

abbrev pub invariant-loop-names : goal.invariant-loop-names
invariant-loop-names l = Each (AreSymbols l.grammar (numbers_of l.numbering)) (take l.names-index l.names-items) l.sets
