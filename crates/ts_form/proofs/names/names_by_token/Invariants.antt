use Rattle.std.proofs.Common.{◌-◌, length, take}
use Rattle.ts_numbering.specs.Keys.{rules_told}
use Rattle.ts_numbering.specs.Numberings.{lists_of}
use Rattle.ts_form.specs.Forms.{AreNamesOf}
use Rattle.ts_form.proofs.names.names_by_token.Given as goal

abbrev pub invariant-loop-at : goal.invariant-loop-at
invariant-loop-at l = AreNamesOf (take l.at (rules_told l.numbering.survey.named.entries)) (lists_of l.numbering).tokens l.names.items

abbrev pub decreases-loop-at : goal.decreases-loop-at
decreases-loop-at l = length l.numbering.survey.named.entries - l.at
