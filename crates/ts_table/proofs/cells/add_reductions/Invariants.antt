use Rattle.std.proofs.Common.{◌≡◌, ◌++◌, take}
use Rattle.ts_table.specs.Cells.{reductions_in}
use Rattle.ts_table.proofs.cells.add_reductions.Given as goal

abbrev pub invariant-loop-candidate : goal.invariant-loop-candidate
invariant-loop-candidate l = l.actions.items ≡ l.initial.actions.items ++ reductions_in (take l.candidate-index l.reductions)
