use Rattle.std.proofs.Common.{◌≤◌, length}
use Rattle.ts_automata.specs.Parts.{Fills}
use Rattle.ts_automata.proofs.part.own.Given as goal

abbrev pub invariant-loop-node : goal.invariant-loop-node
invariant-loop-node l = record {
  low : length l.fn.owners.items ≤ l._node;
  fills : Fills l.fn.owners.items l.owners.items l._node l.part;
}
