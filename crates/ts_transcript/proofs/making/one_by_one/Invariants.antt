use Rattle.std.proofs.Common.{take}
use Rattle.ts_transcript.specs.Told.{AreLines}
use Rattle.ts_transcript.proofs.making.one_by_one.Given as goal

-- the bytes of the first lines were added
abbrev pub invariant-loop-line : goal.invariant-loop-line
invariant-loop-line l = AreLines l.grammar (take l.line-index l.lines) l.out.items
