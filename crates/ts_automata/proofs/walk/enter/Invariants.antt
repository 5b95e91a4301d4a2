use Rattle.std.proofs.Common.{◌≡◌, take}
use Rattle.std.specs.List.{Contains}
use Rattle.ts_automata.specs.Sets.{Adds}
use Rattle.ts_automata.specs.Marked.{InRoom}
use Rattle.ts_automata.specs.NodeSets.{node_room, nodes_of}
use Rattle.ts_automata.proofs.walk.enter.Given as goal

abbrev pub invariant-loop-entry : goal.invariant-loop-entry
invariant-loop-entry l = record {
  room : node_room l.set ≡ node_room l.fn.set;
  adds : Adds (InRoom (node_room l.fn.set) (Contains (take l.entry-index l.entries))) (nodes_of l.fn.set) (nodes_of l.set);
}
