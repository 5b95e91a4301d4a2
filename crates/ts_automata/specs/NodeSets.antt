-- What a set of nodes has, and room for how many.
use Rattle.std.specs.Prelude.{ℕ, List, length}
use Rattle.ts_automata.specs.declared.node_set.NodeSet.{NodeSet}

-- the number below which nodes have room
abbrev pub node_room : NodeSet → ℕ
node_room set = length set.marks.items

-- the nodes, in the order in which they came
abbrev pub nodes_of : NodeSet → List ℕ
nodes_of set = set.members.items
