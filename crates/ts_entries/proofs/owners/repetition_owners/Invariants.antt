use Rattle.std.proofs.Common.{◌≤◌, length, drop}
use Rattle.ts_numbering.specs.Numberings.{lists_of, numbers_of}
use Rattle.ts_entries.specs.Owners.{AreOwners}
use Rattle.ts_entries.proofs.owners.repetition_owners.Given as goal

abbrev pub invariant-loop-left : goal.invariant-loop-left
invariant-loop-left l =
    (l.left ≤ length l.rules)
    × AreOwners l.grammar (numbers_of l.numbering) (lists_of l.numbering) (drop l.left l.rules) l.owners.items

abbrev pub decreases-loop-left : goal.decreases-loop-left
decreases-loop-left l = l.left
