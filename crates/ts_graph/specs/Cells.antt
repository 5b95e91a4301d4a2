-- The graph that is kept as cells.
use Rattle.std.specs.Prelude.{◌≡◌, ℕ, ◌≤◌, Bool, false, List, length, map, take, slice_get, Option, Some}
use Rattle.spec_trees.specs.Trees.{is_extra_node}
use Rattle.spec_graph.specs.declared.graph.Head.{Head}
use Rattle.spec_graph.specs.declared.graph.Link.{Link}
use Rattle.ts_graph.specs.declared.graph.Row.{Row}
use Rattle.ts_graph.specs.declared.graph.Cell.{Cell}
use Rattle.ts_graph.specs.declared.view.GraphView.{GraphView}
use Rattle.ts_graph.specs.Bounds.{IsBound}
use Rattle.ts_graph.specs.Down.{links_down, links_from, place_at, HoldsEachOnce}

-- the heads of rows
abbrev pub heads_of : List Row → List Head
heads_of rows = map (λ (r : Row). r.head) rows

-- the newest link down from each of them
abbrev pub newest_of : List Row → List (Option ℕ)
newest_of rows = map (λ (r : Row). r.newest) rows

-- the link of a cell
abbrev pub link_of : Cell → Link
link_of c = record { above = c.above; below = c.below; tree = c.node; depth = c.depth }

-- the links of cells
abbrev pub links_of : List Cell → List Link
links_of cells = map link_of cells

-- heads and links as one value, and how many of the links are those of the stack below
abbrev pub graph_of : List Head → List Link → ℕ → GraphView
graph_of heads links base = record { heads = heads; links = links; base = base }

-- each cell tells where to go on down from its head
abbrev pub AreChained : List Cell → Type 0
AreChained cells = (k : ℕ) (c : Cell) → slice_get cells k ≡ Some c
    → links_from (links_of cells) c.above c.earlier ≡ links_down (take k (links_of cells)) c.above

-- there is room for each head's newest link, and each place tells where to begin
pub record IsSound (heads : List Head) (newest : List (Option ℕ)) (cells : List Cell)
    : Type 0 where
  pub each_once : HoldsEachOnce heads (links_of cells)
  pub chained : AreChained cells
  pub room : length heads ≤ length newest
  pub begins : (h : ℕ) (o : Option ℕ) → slice_get newest h ≡ Some o
      → links_from (links_of cells) h o ≡ links_down (links_of cells) h

-- each cell tells a place below which neither its link leads nor an earlier one from its head
abbrev pub AreBounded : List Head → List Cell → Type 0
AreBounded heads cells = (k : ℕ) (c : Cell) → slice_get cells k ≡ Some c
    → (j : ℕ) (d : Cell) → slice_get cells j ≡ Some d → d.above ≡ c.above → j ≤ k
    → c.lowest ≤ place_at heads d.below

-- no tree past those of the stack is an extra, unless it is said that there was one
abbrev pub AreFilled : Bool → ℕ → List Cell → Type 0
AreFilled extras base cells = extras ≡ false
    → (k : ℕ) (c : Cell) → base ≤ k → slice_get cells k ≡ Some c → is_extra_node c.node ≡ false

-- the link of a number is that of the cell, which tells where to go on down, and no less a place
-- than that to which its links lead
pub record IsCellOf (g : GraphView) (k : ℕ) (c : Cell) : Type 0 where
  pub own : g.base ≤ k
  pub link : slice_get g.links k ≡ Some (link_of c)
  pub earlier : links_from g.links c.above c.earlier ≡ links_down (take k g.links) c.above
  pub lowest : IsBound g.heads g.links k c.above c.lowest

-- what is kept beside, by which walks over links end early
pub record IsKept (heads : List Head) (base : ℕ) (cells : List Cell) (extras : Bool)
    : Type 0 where
  pub bounded : AreBounded heads cells
  pub filled : AreFilled extras base cells
