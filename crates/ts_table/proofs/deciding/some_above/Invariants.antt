use Rattle.std.proofs.Common.{take}
use Rattle.std.specs.List.{Contains}
use Rattle.ts_table.specs.declared.candidates.Candidate.{Candidate}
use Rattle.ts_table.specs.Marks.{HigherBy}
use Rattle.ts_table.proofs.deciding.some_above.Given as goal

abbrev pub invariant-loop-candidate : goal.invariant-loop-candidate
invariant-loop-candidate l = (q : Candidate) → Contains (take l.candidate-index l.candidates) q → HigherBy l.grammar q.weight l.weight → ⊥
