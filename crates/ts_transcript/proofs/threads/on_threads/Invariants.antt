use Rattle.std.proofs.Common.{length, ◌++◌}
use Rattle.ts_transcript.specs.Columns.{AreColumns}
use Rattle.ts_transcript.specs.Batches.{Begins}
use Rattle.ts_transcript.proofs.threads.on_threads.Given as goal

-- the first lines were made, the last of them by columns
abbrev pub invariant-loop-rest : goal.invariant-loop-rest
invariant-loop-rest g l =
    Begins l.grammar l.lines l.made.bytes.items (l.batch ++ l.rest) × AreColumns l.grammar l.batch l.made.columns.items

abbrev pub decreases-loop-rest : goal.decreases-loop-rest
decreases-loop-rest g l = length l.rest
