-- The stack over which a graph lies: its lowest heads and links.
use Rattle.std.specs.Prelude.{◌≡◌, ℕ, ◌<◌, ◌≤◌, suc, List, [], ◌∷◌, ◌++◌, length, map, slice_get, Option, Some, None}
use Rattle.std.specs.Option.{option_map_or}
use Rattle.spec_trees.specs.declared.tree.Tree.{Tree}
use Rattle.spec_trees.specs.Trees.{span_of, all_spans}
use Rattle.spec_graph.specs.declared.graph.Head.{Head}
use Rattle.spec_graph.specs.declared.graph.Link.{Link}
use Rattle.ts_gss.specs.declared.layer.Layer.{Layer}
use Rattle.ts_gss.specs.Stacks.{packed_layer, stack_at, state_on, trees_on, IsOneStack}
use Rattle.ts_graph.specs.declared.graph.Row.{Row}
use Rattle.ts_graph.specs.declared.graph.Cell.{Cell}
use Rattle.ts_graph.specs.declared.view.GraphView.{GraphView}
use Rattle.ts_graph.specs.Down.{link_with}

-- each tree has bytes
abbrev pub HaveBytes : List Tree → Type 0
HaveBytes [] = Unit {0}
HaveBytes (t ∷ ts) = (0 < span_of t) × HaveBytes ts

-- the head of a stack: its state, at the place where it ends
abbrev pub head_over : List Layer → Head
head_over layers = record { state = state_on layers; place = all_spans (trees_on layers) }

-- the heads of a stack and of those below it, the lowest first
abbrev pub heads_on : List Layer → List Head
heads_on [] = head_over [] ∷ []
heads_on (l ∷ layers) = heads_on layers ++ head_over (l ∷ layers) ∷ []

-- the links of its layers, the lowest first
abbrev pub links_on : List Layer → List Link
links_on [] = []
links_on (l ∷ layers) =
    links_on layers ++ link_with (suc (length layers)) (length layers) l.tree l.depth ∷ []

-- the graph over a stack that has no other heads
abbrev pub graph_over : List Layer → GraphView
graph_over layers = record {
  heads = heads_on layers;
  links = links_on layers;
  base = length layers;
}

-- The first links are those of the stack, each between two heads of neighbouring numbers. All
-- others lead down from heads past those of the stack.
pub record LiesOver (g : GraphView) : Type 0 where
  pub there : g.base < length g.heads
  pub lower : (k : ℕ) → k < g.base
      → (l : Link) × (slice_get g.links k ≡ Some l) × (l.above ≡ suc k) × (l.below ≡ k)
  pub own : (k : ℕ) (l : Link) → slice_get g.links k ≡ Some l → g.base ≤ k → g.base < l.above

-- ---- ways as stacks

-- the state of the head of a number
abbrev pub state_at : List Head → ℕ → ℕ
state_at heads h = option_map_or (λ (head : Head). head.state) (slice_get heads h) 0

-- a link as a layer of a stack, with the state of the head above it
abbrev pub layer_of_link : List Head → Link → Layer
layer_of_link heads l = packed_layer l.tree (state_at heads l.above) l.depth

-- the same of the links of a way
abbrev pub layers_of : List Head → List Link → List Layer
layers_of heads way = map (layer_of_link heads) way

-- ---- the graph as it is kept. It serves private clauses and proofs alone.

-- a head with its newest link
abbrev pub row_with : Head → Option ℕ → Row
row_with head newest = record { head = head; newest = newest; beside = 0 }

-- the rows of the heads of a stack, the lowest first
abbrev pub rows_on : List Layer → List Row
rows_on [] = row_with (head_over []) None ∷ []
rows_on (l ∷ layers) =
    rows_on layers ++ row_with (head_over (l ∷ layers)) (Some (length layers)) ∷ []

-- the cell of a layer, with so many layers below it
abbrev pub cell_over : Layer → ℕ → Cell
cell_over l n = record {
  above = suc n;
  below = n;
  node = l.tree;
  depth = l.depth;
  earlier = None;
  lowest = 0;
}

-- the cells of the layers of a stack, the lowest first
abbrev pub cells_on : List Layer → List Cell
cells_on [] = []
cells_on (l ∷ layers) = cells_on layers ++ cell_over l (length layers) ∷ []

-- all rows, and all cells, over a stack
abbrev pub rows_over : List Layer → List Row → List Row
rows_over layers rows = rows_on layers ++ rows

abbrev pub cells_over : List Layer → List Cell → List Cell
cells_over layers cells = cells_on layers ++ cells

-- The stack that is kept lies alone, and ends at the place. Its trees have bytes, and all cells
-- beside it lead down from heads past its own.
pub record LiesUnder (stacks : List (List Layer)) (base place : ℕ) (cells : List Cell)
    : Type 0 where
  pub one : IsOneStack stacks base
  pub spans : all_spans (trees_on (stack_at stacks base)) ≡ place
  pub bytes : HaveBytes (trees_on (stack_at stacks base))
  pub few : base ≤ place
  pub own : (k : ℕ) (c : Cell) → slice_get cells k ≡ Some c → base < c.above
