use Rattle.std.proofs.Common.{length, ◌-◌}
use Rattle.ts_transcript.specs.Columns.{HasRows}
use Rattle.ts_transcript.proofs.threads.column_of.Given as goal

abbrev pub decreases-loop-place : goal.decreases-loop-place
decreases-loop-place l = length l.lines - l.place

-- the lines before this place were made
abbrev pub invariant-loop-place : goal.invariant-loop-place
invariant-loop-place l = HasRows l.grammar l.lines l.column l.place l.pieces.items
