use Rattle.std.proofs.Common.{take, ◌↔◌}
use Rattle.std.specs.List.{Contains}
use Rattle.ts_core.specs.declared.flat.FlatGrammar.{FlatGrammar}
use Rattle.ts_items.specs.declared.part.Part.{Part}
use Rattle.ts_table.specs.Marks.{AreMarksOf}
use Rattle.ts_table.specs.Candidates.{IsCompletePart}
use Rattle.ts_table.proofs.candidates.complete_parts.Given as goal

abbrev pub invariant-loop-part : goal.invariant-loop-part
invariant-loop-part l = (g : FlatGrammar) → AreMarksOf g l.marks → (q : Part) → Contains l.complete.items q ↔ (Contains (take l.part-index l.parts) q × IsCompletePart g q)
