use Rattle.std.proofs.Common.{◌-◌}
use Rattle.ts_text.specs.Pieces.{IsBetween}
use Rattle.ts_text.proofs.text.piece_at.Given as goal

abbrev pub invariant-loop-low : goal.invariant-loop-low
invariant-loop-low l = IsBetween l.pieces l.place l.low l.high

abbrev pub decreases-loop-low : goal.decreases-loop-low
decreases-loop-low l = l.high - l.low
