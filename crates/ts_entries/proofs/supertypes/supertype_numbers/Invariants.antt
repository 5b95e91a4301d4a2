use Rattle.std.proofs.Common.{take}
use Rattle.ts_numbering.specs.Numberings.{numbers_of}
use Rattle.ts_entries.specs.Supertypes.{AreSupertypes}
use Rattle.ts_entries.proofs.supertypes.supertype_numbers.Given as goal

abbrev pub invariant-loop-name : goal.invariant-loop-name
invariant-loop-name l = AreSupertypes l.grammar (numbers_of l.numbering) (take l.name-index l.name-items) l.numbers
