-- Visible nodes as a search sees them.
use Rattle.std.specs.Prelude.{ℕ, ◌<◌, List, length}
use Rattle.spec_trees.specs.declared.visible.VisibleNode.{VisibleNode}
use Rattle.spec_trees.specs.Family.{IsParent}
use Rattle.ts_query_syntax.specs.declared.read_query.QueryKind.{QueryKind}
use Rattle.spec_matches.specs.declared.scene.Scene.{Scene}
use Rattle.ts_search.specs.declared.row.Row.{Row}

-- the visible node of a row
abbrev pub seen_row : Row → VisibleNode
seen_row r = record {
  depth = r.depth;
  name = r.name.now;
  named = r.named;
  fields = r.fields.now;
  start = r.start;
  end = r.end;
}

-- kinds, and the nodes of a visible tree
abbrev pub scene_of : List QueryKind → List VisibleNode → Scene
scene_of kinds nodes = record { kinds = kinds; nodes = nodes }

-- each node but the first has a parent
abbrev pub HaveParents : List VisibleNode → Type 0
HaveParents nodes = (k : ℕ) → 0 < k → k < length nodes → (m : ℕ) × IsParent nodes k m
