use Rattle.std.proofs.Common.{take}
use Rattle.spec_history.specs.Printed.{TellsEach}
use Rattle.ts_transcript.specs.Told.{AddsLines, TellsAccepted}
use Rattle.ts_transcript.proofs.told.add_entries.Given as goal

-- the lines of the first items were added
abbrev pub invariant-loop-number : goal.invariant-loop-number
invariant-loop-number l = AddsLines (λ g. TellsEach (TellsAccepted g l.document) (take l.number l.accepted)) l.initial.out.items l.out.items
