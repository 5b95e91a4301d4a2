use Rattle.std.proofs.Common.{take}
use Rattle.ts_core.specs.declared.rule.Grammar.{Grammar}
use Rattle.ts_numbering.specs.Numberings.{numbers_of}
use Rattle.ts_numbering.specs.Surveys.{IsSurvey}
use Rattle.ts_rules.specs.Normal.{AreEntries}
use Rattle.ts_entries.proofs.orderings.ordering.Given as goal

abbrev pub invariant-loop-one : goal.invariant-loop-one
invariant-loop-one l = (g : Grammar) → IsSurvey g l.numbering.survey → AreEntries g (numbers_of l.numbering) (take l.one-index l.ranked) l.entries
