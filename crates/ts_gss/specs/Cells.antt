-- The stacks that cells stand for.
use Rattle.std.specs.Prelude.{◌≡◌, ℕ, ◌<◌, ◌≤◌, List, [], ◌∷◌, ◌++◌, slice_get, Some}
use Rattle.spec_trees.specs.Trees.{tree_depth}
use Rattle.ts_gss.specs.declared.layer.Layer.{Layer}
use Rattle.ts_gss.specs.declared.graph.Cell.{Cell}
use Rattle.ts_gss.specs.Stacks.{layer_of, stack_at}

-- one more stack: that of a cell
abbrev pub with_cell : List (List Layer) → Cell → List (List Layer)
with_cell stacks c = stacks ++ (layer_of c ∷ stack_at stacks c.below) ∷ []

-- the stacks with those of cells, one after another
abbrev pub with_cells : List (List Layer) → List Cell → List (List Layer)
with_cells stacks [] = stacks
with_cells stacks (c ∷ cells) = with_cells (with_cell stacks c) cells

-- the empty stack, and then that of each cell
abbrev pub stacks_of : List Cell → List (List Layer)
stacks_of cells = with_cells ([] ∷ []) cells

-- each cell lies on the empty stack or on that of an earlier cell
abbrev pub LieAbove : List Cell → Type 0
LieAbove cells = (k : ℕ) (c : Cell) → slice_get cells k ≡ Some c → c.below ≤ k

-- the first so many cells are as deep as their nodes
abbrev pub AreExactTo : ℕ → List Cell → Type 0
AreExactTo exact cells =
    (k : ℕ) (c : Cell) → k < exact → slice_get cells k ≡ Some c → c.depth ≡ tree_depth c.node

-- no cell has a greater depth
abbrev pub NoneIsDeeper : ℕ → List Cell → Type 0
NoneIsDeeper deepest cells =
    (k : ℕ) (c : Cell) → slice_get cells k ≡ Some c → c.depth ≤ deepest
