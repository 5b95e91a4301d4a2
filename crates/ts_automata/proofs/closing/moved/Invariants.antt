use Rattle.std.proofs.Common.{[], take}
use Rattle.ts_automata.specs.Sets.{Adds, Moves}
use Rattle.ts_automata.proofs.closing.moved.Given as goal

abbrev pub invariant-loop-from : goal.invariant-loop-from
invariant-loop-from l = Adds (Moves l.nodes (take l.from-index l.set) l.c) [] l.kernel.items
