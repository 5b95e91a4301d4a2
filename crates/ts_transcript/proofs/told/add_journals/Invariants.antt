use Rattle.std.proofs.Common.{take}
use Rattle.spec_history.specs.Printed.{TellsEach}
use Rattle.ts_transcript.specs.Told.{AddsLines, TellsJournal}
use Rattle.ts_transcript.proofs.told.add_journals.Given as goal

-- the lines of the first items were added
abbrev pub invariant-loop-document : goal.invariant-loop-document
invariant-loop-document l = AddsLines (λ g. TellsEach (TellsJournal g) (take l.document l.books)) l.initial.out.items l.out.items
