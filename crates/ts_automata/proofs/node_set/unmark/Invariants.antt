use Rattle.std.proofs.Common.{take}
use Rattle.ts_automata.proofs.MarkedLemmas.{Unmarked}
use Rattle.ts_automata.proofs.node_set.unmark.Given as goal

abbrev pub invariant-loop-node : goal.invariant-loop-node
invariant-loop-node l = Unmarked l.fn.marks.items l.marks.items (take l.node-index l.members)
