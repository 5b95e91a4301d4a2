use Rattle.std.proofs.Common.{string_bytes}
use Rattle.ts_text.specs.Pieces.{IsJoined}
use Rattle.ts_text.proofs.rest.joined.Given as goal

abbrev pub invariant-loop-wanting : goal.invariant-loop-wanting
invariant-loop-wanting l = IsJoined l.rest l.count (string_bytes l.made) l.left l.wanting

abbrev pub decreases-loop-wanting : goal.decreases-loop-wanting
decreases-loop-wanting l = l.wanting
