use Rattle.std.proofs.Common.{take}
use Rattle.ts_core.specs.declared.rule.Grammar.{Grammar}
use Rattle.ts_numbering.specs.Numberings.{numbers_of}
use Rattle.ts_numbering.specs.Surveys.{IsSurvey}
use Rattle.ts_rules.specs.Normal.{AreSymbols}
use Rattle.ts_entries.proofs.orderings.conflict_symbols.Given as goal

abbrev pub invariant-loop-name : goal.invariant-loop-name
invariant-loop-name l = (g : Grammar) → IsSurvey g l.numbering.survey → AreSymbols g (numbers_of l.numbering) (take l.name-index l.names) l.symbols
