use Rattle.std.proofs.Common.{◌≡◌, ◌++◌, take}
use Rattle.ts_table.specs.Rules.{owners_in}
use Rattle.ts_table.proofs.conflicts.add_owners.Given as goal

abbrev pub invariant-loop-candidate : goal.invariant-loop-candidate
invariant-loop-candidate l = l.rules.items ≡ l.initial.rules.items ++ owners_in l.grammar (take l.candidate-index l.candidates)
