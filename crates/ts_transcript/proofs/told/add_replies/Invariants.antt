use Rattle.std.proofs.Common.{take}
use Rattle.spec_history.specs.Printed.{TellsEach}
use Rattle.ts_transcript.specs.Told.{AddsLines, TellsReply}
use Rattle.ts_transcript.proofs.told.add_replies.Given as goal

-- the lines of the first items were added
abbrev pub invariant-loop-step : goal.invariant-loop-step
invariant-loop-step l = AddsLines (λ g. TellsEach (TellsReply l.client) (take l.step l.replies)) l.initial.out.items l.out.items
