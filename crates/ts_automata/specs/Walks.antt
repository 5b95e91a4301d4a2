-- Where an automaton is on its way through a text.
use Rattle.std.specs.Prelude.{ℕ, ◌<◌, List, length, ◌↔◌}
use Rattle.std.specs.List.{Contains}
use Rattle.ts_automata.specs.declared.automaton.Automaton.{Automaton}
use Rattle.ts_automata.specs.declared.walk.Walk.{Walk}
use Rattle.ts_automata.specs.After.{LeadsToNode}
use Rattle.ts_automata.specs.NodeSets.{node_room, nodes_of}

-- for how many nodes it has room
abbrev pub walk_room : Walk → ℕ
walk_room walk = node_room walk.here

-- the nodes in which the automaton is
abbrev pub walk_nodes : Walk → List ℕ
walk_nodes walk = nodes_of walk.here

-- these are the nodes to which the characters lead from the first nodes of all parts
abbrev pub HasCome : Automaton → List ℕ → Walk → Type 0
HasCome a w walk =
    (t : ℕ) → Contains (walk_nodes walk) t
    ↔ (LeadsToNode a.nodes.items a.entries.items w t × (t < length a.nodes.items))
