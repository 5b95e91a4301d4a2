use Rattle.ts_automata.specs.Sets.{sets_of}
use Rattle.ts_automata.proofs.SetLemmas.{Begun}
use Rattle.ts_automata.proofs.numbering.firsts.Given as goal

abbrev pub invariant-loop-kernel : goal.invariant-loop-kernel
invariant-loop-kernel l = Begun l.nodes (sets_of l.kernels) (sets_of l.initial.sets.keys) (sets_of l.sets.keys) l.numbers.items l.kernel-index
