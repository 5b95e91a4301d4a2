use Rattle.std.proofs.Common.{take, ◌↔◌}
use Rattle.std.specs.List.{Contains}
use Rattle.ts_core.specs.declared.flat.FlatGrammar.{FlatGrammar}
use Rattle.ts_items.specs.Sets.{HasAt}
use Rattle.ts_table.specs.declared.candidates.Candidate.{Candidate}
use Rattle.ts_table.specs.Marks.{AreMarksOf}
use Rattle.ts_table.specs.Candidates.{PicksFrom}
use Rattle.ts_table.proofs.candidates.reductions.Given as goal

abbrev pub invariant-loop-part : goal.invariant-loop-part
invariant-loop-part l = (g : FlatGrammar) → AreMarksOf g l.marks → (c : Candidate) → Contains l.found.items c ↔ PicksFrom g (take l.part-index l.complete) (λ q. HasAt l.pool.keys q.tokens l.token) c
