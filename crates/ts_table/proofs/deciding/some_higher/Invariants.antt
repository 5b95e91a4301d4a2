use Rattle.std.proofs.Common.{take}
use Rattle.std.specs.List.{Contains}
use Rattle.ts_table.specs.declared.candidates.Candidate.{Candidate}
use Rattle.ts_table.specs.Marks.{HigherBy}
use Rattle.ts_table.proofs.deciding.some_higher.Given as goal

abbrev pub invariant-loop-candidate : goal.invariant-loop-candidate
invariant-loop-candidate l = (r : Candidate) → Contains (take l.candidate-index l.below) r → (q : Candidate) × Contains l.above q × HigherBy l.grammar q.weight r.weight → ⊥
