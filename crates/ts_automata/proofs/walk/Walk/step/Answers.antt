use Rattle.std.proofs.Common.{◌∙◌, ℕ}
use Rattle.ts_automata.specs.NodeSets.{node_room, nodes_of}
use Rattle.ts_automata.proofs.WalkLemmas.{come_more}
use Rattle.ts_automata.proofs.walk.Walk.step.Goals as goal

pub returns-clause-stands : goal.returns-clause-stands
returns-clause-stands c w size before =
    let a = c.args.automaton.now in
    let s = c.args.self.now in
    let n : ℕ = node_room s.next in
    let goes = rw (c.as_slice.ensures.value, c.nodes-members.ensures) at c.go_on.ensures.goes in
    let after = come_more a.nodes.items n (s.same ∙ size) a.entries.items (nodes_of s.here) goes.0 (nodes_of c.go_on.new.set) w c.args.c before goes.1 goes.2 in
    rw c.swap.ensures.x_after after
