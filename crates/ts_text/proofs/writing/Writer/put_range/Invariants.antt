use Rattle.std.proofs.Common.{◌-◌}
use Rattle.ts_text.specs.Written.{IsWrittenTo, written}
use Rattle.ts_text.proofs.writing.Writer.put_range.Given as goal

abbrev pub invariant-loop-place : goal.invariant-loop-place
invariant-loop-place l = IsWrittenTo l.text (written l.fn.self) (written l.self) l.pieces l.from l.to l.place l.next

abbrev pub decreases-loop-place : goal.decreases-loop-place
decreases-loop-place l = l.to - l.place
