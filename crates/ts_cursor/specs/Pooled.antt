-- Visible nodes as they are kept: the fields of all of them stand in one pool.
use Rattle.std.specs.Prelude.{ℕ, ◌+◌, ◌≤◌, List, [], ◌∷◌, map, take, drop}
use Rattle.spec_trees.specs.declared.visible.VisibleNode.{VisibleNode}
use Rattle.ts_cursor.specs.declared.seen.Face.{Face}

-- a visible node with these fields
abbrev pub seen_with : List ℕ → Face → VisibleNode
seen_with fields v = record {
  depth = v.depth;
  name = v.name.now;
  named = v.named;
  fields = fields;
  start = v.start;
  end = v.end;
}

-- a visible node whose fields stand in a pool
abbrev pub seen_node : List ℕ → Face → VisibleNode
seen_node pool v = seen_with (take v.count (drop v.first pool)) v

-- the same of several
abbrev pub seen_nodes : List ℕ → List Face → List VisibleNode
seen_nodes pool = map (seen_node pool)

-- the fields of each of several stand in a pool of so many
abbrev pub AreWithin : ℕ → List Face → Type 0
AreWithin room [] = Unit {0}
AreWithin room (v ∷ vs) = (v.first + v.count ≤ room) × AreWithin room vs
