use Rattle.std.proofs.Common.{◌-◌, length, take}
use Rattle.ts_core.specs.declared.rule.Grammar.{Grammar}
use Rattle.ts_entries.specs.Owners.{IsOwnerSymbol}
use Rattle.ts_numbering.specs.Numberings.{numbers_of, lists_of}
use Rattle.ts_rules.specs.FirstSights.{Each}
use Rattle.ts_rules.specs.Normal.{IsRepetition}
use Rattle.ts_flat.proofs.rules.repetitions.Given as goal

abbrev pub invariant-loop-at : goal.invariant-loop-at
invariant-loop-at l = (g : Grammar) → Each (IsOwnerSymbol g (numbers_of l.numbering)) (lists_of l.numbering).contents l.owners
    → Each (IsRepetition g (numbers_of l.numbering) (lists_of l.numbering)) (take l.at (lists_of l.numbering).contents) l.rules

abbrev pub decreases-loop-at : goal.decreases-loop-at
decreases-loop-at l = length l.owners - l.at
