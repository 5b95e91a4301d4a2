-- What a bare tree keeps of a tree. It serves private clauses and proofs alone.
use Rattle.std.specs.Prelude.{◌≡◌, map}
use Rattle.spec_trees.specs.declared.tree.Tree.{Tree}
use Rattle.spec_trees.specs.Trees.{symbol_of, production_of, pad_of, size_of, elements_of, children_of, total_of, is_extra_node, tree_depth, bare_element, bare}
use Rattle.spec_trees.specs.Choice.{code_of}

-- all but its extent, its state and its mark, and its elements and children are bare
pub record KeepsAll (t : Tree) : Type 0 where
  pub symbol : symbol_of (bare t) ≡ symbol_of t
  pub production : production_of (bare t) ≡ production_of t
  pub pad : pad_of (bare t) ≡ pad_of t
  pub size : size_of (bare t) ≡ size_of t
  pub total : total_of (bare t) ≡ total_of t
  pub extra : is_extra_node (bare t) ≡ is_extra_node t
  pub elements : elements_of (bare t) ≡ map bare_element (elements_of t)
  pub children : children_of (bare t) ≡ map bare (children_of t)
  pub depth : tree_depth (bare t) ≡ tree_depth t
  pub code : code_of (bare t) ≡ code_of t
