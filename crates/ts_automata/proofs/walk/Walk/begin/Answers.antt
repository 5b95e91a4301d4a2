use Rattle.std.proofs.Common.{[]}
use Rattle.std.specs.List.{Contains}
use Rattle.ts_automata.specs.Sets.{Adds}
use Rattle.ts_automata.specs.Marked.{InRoom}
use Rattle.ts_automata.specs.NodeSets.{node_room, nodes_of}
use Rattle.ts_automata.proofs.WalkLemmas.{come_none}
use Rattle.ts_automata.proofs.walk.Walk.begin.Goals as goal

pub returns-clause-stands : goal.returns-clause-stands
returns-clause-stands c size =
    let a = c.args.automaton.now in
    let kept : Adds (InRoom (node_room c.args.self.now.here) (Contains a.entries.items)) [] (nodes_of c.enter.new.set) =
    rw (c.clear.ensures.room, c.clear.ensures.none, c.as_slice.ensures.value) at c.enter.ensures.adds in
    let closed = rw (c.as_slice-2.ensures.value, c.enter.ensures.room, c.clear.ensures.room) at c.close.ensures.closed in
    come_none a.nodes.items (node_room c.args.self.now.here) size a.entries.items (nodes_of c.enter.new.set) (nodes_of c.close.new.set) kept closed
