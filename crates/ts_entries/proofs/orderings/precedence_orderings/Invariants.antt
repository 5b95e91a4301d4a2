use Rattle.std.proofs.Common.{take}
use Rattle.ts_numbering.specs.Numberings.{numbers_of}
use Rattle.ts_rules.specs.FirstSights.{Each}
use Rattle.ts_rules.specs.Normal.{AreEntries}
use Rattle.ts_entries.proofs.orderings.precedence_orderings.Given as goal

abbrev pub invariant-loop-ranked : goal.invariant-loop-ranked
invariant-loop-ranked l = Each (AreEntries l.grammar (numbers_of l.numbering)) (take l.ranked-index l.ranked-items) l.orderings
