-- The visible tree as it is printed: with the names of its fields, and with rows and columns.
use Rattle.std.specs.Prelude.{ℕ, List, [], map, slice_get, unwrap_or}
use Rattle.ts_base.specs.Bytes.{Bytes}
use Rattle.ts_text.specs.Point.{row_of, column_of}
use Rattle.ts_core.specs.declared.flat.FlatGrammar.{FlatGrammar}
use Rattle.ts_core.specs.declared.shown.Shown.{Shown}
use Rattle.spec_trees.specs.declared.tree.Tree.{Tree}
use Rattle.spec_trees.specs.declared.visible.VisibleNode.{VisibleNode}
use Rattle.spec_trees.specs.VisibleNodes.{visible_nodes}

-- the name of a field
abbrev pub field_name : FlatGrammar → ℕ → Bytes
field_name g field = unwrap_or (slice_get g.fields field) []

-- a visible node as it is printed: its start has a row and a column
abbrev pub shown : FlatGrammar → Bytes → VisibleNode → Shown
shown g text node = record {
  depth = node.depth;
  name = node.name;
  named = node.named;
  fields = map (field_name g) node.fields;
  start = node.start;
  end = node.end;
  row = row_of text node.start;
  column = column_of text node.start;
}

-- the visible tree of a root, which stands at the text's start
abbrev pub Visible : FlatGrammar → Bytes → Tree → List Shown
Visible g text root = map (shown g text) (visible_nodes g root)
