-- The topmost tree of a stack lies at its end.
use Rattle.std.proofs.Common.{◌≡◌, ap, ℕ, ◌+◌, ◌≤◌, List, [], ◌∷◌, Some, None, Fits, w32, arith}
use Rattle.spec_trees.specs.declared.tree.Tree.{Tree}
use Rattle.spec_trees.specs.Trees.{pad_of, size_of, span_of, all_spans}
use Rattle.ts_gss.specs.declared.layer.Layer.{Layer}
use Rattle.ts_gss.specs.Stacks.{trees_on, tree_on, under_top}

pub sum_fits : (a b place : ℕ) → a + b ≤ place → Fits w32 place → Fits w32 (a + b)
sum_fits a b place le f = grind arith

-- the topmost tree of a stack lies at its end
pub top_fits : (layers : List Layer) (node : Tree) (place : ℕ) → Some node ≡ tree_on layers → all_spans (trees_on layers) ≡ place → pad_of node + size_of node ≤ place
top_fits [] node place e spans = absurd (let h : Some node ≡ None = e in cc)
top_fits (l ∷ layers) node place e spans =
    let same : node ≡ l.tree = cc in
    let s = ap span_of same in
    omega (arith, spans, s)

pub rest_spans : (layers : List Layer) (node : Tree) (place left : ℕ) → Some node ≡ tree_on layers → all_spans (trees_on layers) ≡ place → left + (pad_of node + size_of node) ≡ place → all_spans (trees_on (under_top layers)) ≡ left
rest_spans [] node place left e spans is = absurd (let h : Some node ≡ None = e in cc)
rest_spans (l ∷ layers) node place left e spans is =
    let same : node ≡ l.tree = cc in
    let s = ap span_of same in
    omega (arith, spans, s, is)
