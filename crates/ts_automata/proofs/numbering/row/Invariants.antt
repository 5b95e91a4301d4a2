use Rattle.ts_automata.specs.Sets.{sets_of}
use Rattle.ts_automata.proofs.SetLemmas.{Rowing}
use Rattle.ts_automata.proofs.numbering.row.Given as goal

abbrev pub invariant-loop-c : goal.invariant-loop-c
invariant-loop-c l = Rowing l.nodes l.bounds (sets_of l.initial.sets.keys) (sets_of l.sets.keys) l.row.items l.at l.c-index
