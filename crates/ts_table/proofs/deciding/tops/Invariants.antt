use Rattle.std.proofs.Common.{take, ◌↔◌}
use Rattle.std.specs.List.{Contains}
use Rattle.ts_table.specs.declared.candidates.Candidate.{Candidate}
use Rattle.ts_table.specs.Deciding.{IsTopOf}
use Rattle.ts_table.proofs.deciding.tops.Given as goal

abbrev pub invariant-loop-candidate : goal.invariant-loop-candidate
invariant-loop-candidate l = (r : Candidate) → Contains l.kept.items r ↔ (Contains (take l.candidate-index l.reductions) r × IsTopOf l.grammar l.reductions r)
