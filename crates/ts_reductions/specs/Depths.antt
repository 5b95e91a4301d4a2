-- How deep the node of a reduction is, by the depths of its children.
use Rattle.std.specs.Prelude.{ℕ, ◌≤◌, suc, max, Bool, true, false, List, [], ◌∷◌}
use Rattle.spec_trees.specs.Trees.{maximum}
use Rattle.spec_trees.specs.Made.{most_depth}
use Rattle.spec_graph.specs.declared.graph.Link.{Link}

-- One more than the deepest child, where a repetition that is lengthened, the first child, counts
-- by its own children.
abbrev pub depth_when : Bool → List ℕ → ℕ
depth_when false ds = suc (maximum ds)
depth_when true [] = 1
depth_when true (d ∷ ds) = max d (suc (maximum ds))

-- no link of the way is deeper than a node may be
abbrev pub AreShallow : List Link → Type 0
AreShallow [] = Unit {0}
AreShallow (l ∷ way) = (l.depth ≤ most_depth) × AreShallow way
