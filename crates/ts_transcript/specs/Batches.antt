-- Lines that are made in batches, one batch after another. It serves proofs alone.
use Rattle.std.specs.Prelude.{◌≡◌, ℕ, List, length, ◌++◌}
use Rattle.std.specs.Global.{Vec}
use Rattle.ts_base.specs.Bytes.{Bytes}
use Rattle.ts_core.specs.declared.flat.FlatGrammar.{FlatGrammar}
use Rattle.ts_transcript.specs.declared.line.RunLine.{RunLine}
use Rattle.ts_transcript.specs.Told.{AreLines}
use Rattle.ts_transcript.specs.Columns.{AreColumns}

-- the bytes of these lines were added at the end
abbrev pub AddsBytes : FlatGrammar → List RunLine → Bytes → Bytes → Type 0
AddsBytes g lines before after =
    (bytes : Bytes) × AreLines g lines bytes × (after ≡ before ++ bytes)

-- the pieces of these columns were added at the end, whatever the lines are of which they were made
abbrev pub AddsPieces : List (Vec (Vec ℕ)) → ℕ → Bytes → Bytes → Type 0
AddsPieces columns count before after = (g : FlatGrammar) (lines : List RunLine)
    → length lines ≡ count → AreColumns g lines columns → AddsBytes g lines before after

-- the bytes are those of the first lines: with those of the lines that are left they are all
abbrev pub Begins : FlatGrammar → List RunLine → Bytes → List RunLine → Type 0
Begins g lines bytes left = (more : Bytes) → AreLines g left more → AreLines g lines (bytes ++ more)
