use Rattle.std.proofs.Common.{◌-◌, length, take}
use Rattle.ts_numbering.specs.Numberings.{numbers_of, lists_of}
use Rattle.ts_rules.specs.FirstSights.{Each}
use Rattle.ts_rules.specs.Normal.{IsOwnRule}
use Rattle.ts_flat.proofs.rules.own_rules.Given as goal

abbrev pub invariant-loop-at : goal.invariant-loop-at
invariant-loop-at l = Each (IsOwnRule l.grammar (numbers_of l.numbering) (lists_of l.numbering)) (take l.at (lists_of l.numbering).rules) l.rules

abbrev pub decreases-loop-at : goal.decreases-loop-at
decreases-loop-at l = length l.numbering.survey.rules.entries - l.at
