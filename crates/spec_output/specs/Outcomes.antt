-- The line of an outcome.
use Rattle.std.specs.Prelude.{List, map, codes}
use Rattle.ts_base.specs.Bytes.{Bytes}
use Rattle.serde_json.specs.Data.{Data, string, boolean, array, Items, no_items, item, Members, no_members, member}
use Rattle.serde_json.specs.View.{items_of}
use Rattle.ts_core.specs.declared.shown.Shown.{Shown}
use Rattle.spec_output.specs.Lines.{object_line, numeral, text_list}
use Rattle.spec_output.specs.declared.outcome.ShownOutcome.{ShownOutcome}
use Rattle.spec_output.specs.declared.outcome.ShownOutcome.TheVariants.{Tree, Stuck, Deep}

-- a visible node: its depth, kind, whether it is named, its fields, start, end, row and column
abbrev pub node_data : Shown → Data
node_data n =
    array (item (numeral n.depth) (item (string n.name) (item (boolean n.named)
    (item (text_list n.fields) (item (numeral n.start) (item (numeral n.end)
    (item (numeral n.row) (item (numeral n.column) no_items))))))))

-- visible nodes, in their order
abbrev pub node_items : List Shown → Items
node_items nodes = items_of (map node_data nodes)

-- The members of an outcome, and then those that come after. In each line that tells an outcome the
-- members before it stand before these in byte order, and those after it behind them.
abbrev pub outcome_members : ShownOutcome → Members → Members
outcome_members (Tree nodes) after =
    member (codes "nodes") (array (node_items nodes))
    (member (codes "outcome") (string (codes "tree")) after)
outcome_members (Stuck place) after =
    member (codes "outcome") (string (codes "stuck")) (member (codes "place") (numeral place) after)
outcome_members Deep after = member (codes "outcome") (string (codes "deep")) after

-- the line of a parse, which tells its outcome and nothing else
abbrev pub parse_line : ShownOutcome → Bytes
parse_line outcome = object_line (outcome_members outcome no_members)
