use Rattle.std.proofs.Common.{◌≡◌, map, take}
use Rattle.ts_script.specs.Rules.{part_of}
use Rattle.ts_script.proofs.draft.parts_of.Given as goal

abbrev pub invariant-loop-piece : goal.invariant-loop-piece
invariant-loop-piece l = l.parts ≡ map part_of (take l.piece-index l.pieces)
