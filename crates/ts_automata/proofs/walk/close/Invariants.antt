use Rattle.std.proofs.Common.{◌≡◌, ◌-◌, ◌^◌}
use Rattle.ts_automata.specs.Marked.{Onwards}
use Rattle.ts_automata.specs.NodeSets.{node_room, nodes_of}
use Rattle.ts_automata.proofs.LeastLemmas.{Closing}
use Rattle.ts_automata.proofs.walk.close.Given as goal

abbrev pub invariant-loop-next : goal.invariant-loop-next
invariant-loop-next l = record {
  room : node_room l.set ≡ node_room l.fn.set;
  closing : Closing (Onwards l.nodes (node_room l.fn.set)) (nodes_of l.fn.set) (nodes_of l.set) l.next;
}

abbrev pub decreases-loop-next : goal.decreases-loop-next
decreases-loop-next l = 2 ^ 64 - l.next
