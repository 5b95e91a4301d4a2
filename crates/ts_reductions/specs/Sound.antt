-- What is parsed by a table, from the start of a text or from a stack on which runs go on; and
-- graphs of stacks that are sound for it, with good trees.
use Rattle.std.specs.Prelude.{ℕ, List, []}
use Rattle.std.specs.List.{Contains}
use Rattle.ts_base.specs.Bytes.{Bytes}
use Rattle.spec_packing.specs.Packing.{PackedTree}
use Rattle.spec_graph.specs.declared.graph.Link.{Link}
use Rattle.spec_graph.specs.Laying.{Parsing}
use Rattle.ts_graph.specs.declared.view.GraphView.{GraphView}
use Rattle.ts_table.specs.declared.view.ParseTable.{ParseTable}
use Rattle.ts_table.specs.Tables.{goto_of}
use Rattle.ts_reductions.specs.Good.{IsGoodTree}
use Rattle.ts_reductions.specs.SoundLinks.{IsSoundFor}

-- the layers of a stack from which runs go on, and the place where it ends
pub record Base : Type 0 where
  pub layers : List PackedTree
  pub place : ℕ

-- the stack of these layers, which ends at this place
abbrev pub base_at : List PackedTree → ℕ → Base
base_at layers place = record { layers = layers; place = place }

-- the empty stack, from which all runs begin
abbrev pub empty_base : Base
empty_base = base_at [] 0

-- what is parsed by a table, from a stack on
abbrev pub parsing_from : ParseTable → Bytes → Base → Parsing
parsing_from t text base = record {
  grammar = t.grammar;
  text = text;
  goto = goto_of t;
  layers = base.layers;
  place = base.place;
}

-- the same from the start of the text
abbrev pub parsing_of : ParseTable → Bytes → Parsing
parsing_of t text = parsing_from t text empty_base

-- the graph is sound over the stack from which runs go on, and its trees are good
pub record IsSoundBy (t : ParseTable) (text : Bytes) (base : Base) (g : GraphView) : Type 0 where
  pub laid : IsSoundFor (parsing_from t text base) g
  pub good : (l : Link) → Contains g.links l → IsGoodTree t.grammar l.tree

-- the graph is sound over some stack
abbrev pub IsSoundOver : ParseTable → Bytes → GraphView → Type 0
IsSoundOver t text g = (base : Base) × IsSoundBy t text base g
