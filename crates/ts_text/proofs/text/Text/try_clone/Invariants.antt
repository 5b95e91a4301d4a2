use Rattle.std.proofs.Common.{◌≡◌, take}
use Rattle.ts_text.specs.Pieces.{bytes_of}
use Rattle.ts_text.proofs.text.Text.try_clone.Given as goal

abbrev pub invariant-loop-piece : goal.invariant-loop-piece
invariant-loop-piece l = l.text ≡ bytes_of (take l.piece-index l.pieces)
