use Rattle.std.proofs.Common.{take}
use Rattle.spec_history.specs.Printed.{TellsEach, AreReplyLines}
use Rattle.ts_transcript.specs.Told.{AddsLines}
use Rattle.ts_transcript.proofs.told.add_clients.Given as goal

-- the lines of the first items were added
abbrev pub invariant-loop-client : goal.invariant-loop-client
invariant-loop-client l = AddsLines (λ g. TellsEach AreReplyLines (take l.client l.replies)) l.initial.out.items l.out.items
