-- When children can be reduced: what makes the node that a reduction gives a node.
use Rattle.std.specs.Prelude.{◌≡◌, ℕ, ◌+◌, ◌<◌, ◌≤◌, ◌^◌, true, List, All}
use Rattle.std.specs.Int.RustNames.{unsigned_abs}
use Rattle.ts_core.specs.declared.flat.FlatGrammar.{FlatGrammar}
use Rattle.spec_trees.specs.declared.tree.Tree.{Tree}
use Rattle.spec_trees.specs.Trees.{is_settled, all_nodes, all_spans, greatest_depth}
use Rattle.spec_trees.specs.Made.{value_of, FitsProduction, EndBy, IsNode, most_span, most_depth, node_limit}

-- the value of the production of a number has 32 bits
abbrev pub HasSmallValue : FlatGrammar → ℕ → Type 0
HasSmallValue g number = unsigned_abs (value_of g number) ≤ 2 ^ 31

-- They are settled nodes, few, short and not too deep; so many bytes were examined that they are
-- past all of them and past what each of them examined.
pub record CanBeChildren (extent : ℕ) (children : List Tree) : Type 0 where
  pub nodes : All IsNode children
  pub settled : All (λ child. is_settled child ≡ true) children
  pub few : 2 + all_nodes children < node_limit
  pub short : all_spans children ≤ most_span
  pub shallow : 1 + greatest_depth children ≤ most_depth
  pub past : all_spans children < extent
  pub covers : EndBy extent 0 children

-- The children are those of the production, whose value has 32 bits, and can be a node's children.
pub record IsReducible (g : FlatGrammar) (number extent : ℕ) (children : List Tree) : Type 0 where
  pub fits : FitsProduction g number children
  pub value : HasSmallValue g number
  pub standing : CanBeChildren extent children
