use Rattle.std.proofs.Common.{◌≡◌, take}
use Rattle.ts_automata.specs.Sets.{Adds, Moves}
use Rattle.ts_automata.specs.Marked.{InRoom}
use Rattle.ts_automata.specs.NodeSets.{node_room, nodes_of}
use Rattle.ts_automata.proofs.walk.take_all.Given as goal

abbrev pub invariant-loop-from : goal.invariant-loop-from
invariant-loop-from l = record {
  room : node_room l.set ≡ node_room l.fn.set;
  adds : Adds (InRoom (node_room l.fn.set) (Moves l.nodes (take l.from-index l.members) l.c)) (nodes_of l.fn.set) (nodes_of l.set);
}
