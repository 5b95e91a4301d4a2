use Rattle.std.proofs.Common.{◌-◌, ◌^◌}
use Rattle.ts_automata.specs.Sets.{sets_of, rows_of}
use Rattle.ts_automata.proofs.SetLemmas.{Collecting}
use Rattle.ts_automata.proofs.numbering.determinise.Given as goal

abbrev pub invariant-loop-next : goal.invariant-loop-next
invariant-loop-next l = Collecting l.nodes (sets_of l.kernels) l.bounds l.first_sets.items (sets_of l.sets.keys) (rows_of l.rows.items) l.next

abbrev pub decreases-loop-next : goal.decreases-loop-next
decreases-loop-next l = 2 ^ 64 - l.next
