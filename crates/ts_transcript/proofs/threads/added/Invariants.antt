use Rattle.std.proofs.Common.{◌≡◌, List, length, take}
use Rattle.ts_core.specs.declared.flat.FlatGrammar.{FlatGrammar}
use Rattle.ts_transcript.specs.declared.line.RunLine.{RunLine}
use Rattle.ts_transcript.specs.Columns.{AreColumns}
use Rattle.ts_transcript.specs.Batches.{AddsBytes}
use Rattle.ts_transcript.proofs.threads.added.Given as goal

-- the bytes of the first lines were added
abbrev pub invariant-loop-place : goal.invariant-loop-place
invariant-loop-place l =
    (g : FlatGrammar) (lines : List RunLine) → length lines ≡ l.count → AreColumns g lines l.fn.made.items → AddsBytes g (take l.place lines) l.fn.bytes.items l.out.items
