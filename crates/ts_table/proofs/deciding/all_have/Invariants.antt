use Rattle.std.proofs.Common.{◌≡◌, take}
use Rattle.std.specs.List.{Contains}
use Rattle.ts_table.specs.declared.candidates.Candidate.{Candidate}
use Rattle.ts_table.proofs.deciding.all_have.Given as goal

abbrev pub invariant-loop-candidate : goal.invariant-loop-candidate
invariant-loop-candidate l = (r : Candidate) → Contains (take l.candidate-index l.candidates) r → r.weight.assoc ≡ l.side
