-- What is known of each tree of a graph, beside where it is laid.
use Rattle.std.specs.Prelude.{◌≡◌, ◌*◌, ◌<◌, ◌≤◌, true, List, [], ◌∷◌}
use Rattle.ts_core.specs.declared.flat.FlatGrammar.{FlatGrammar}
use Rattle.spec_trees.specs.declared.tree.Tree.{Tree}
use Rattle.spec_trees.specs.Trees.{span_of, node_count, tree_depth, is_settled, is_extra_node}
use Rattle.spec_trees.specs.Made.{IsNode}
use Rattle.spec_trees.specs.Choice.{IsInForm}

-- A settled node in its rule's form, with bytes, and with few nodes for these and for its depth. An
-- extra is a leaf.
pub record IsGoodTree (g : FlatGrammar) (t : Tree) : Type 0 where
  pub node : IsNode t
  pub settled : is_settled t ≡ true
  pub form : IsInForm g t
  pub some : 0 < span_of t
  pub few : node_count t ≤ 2 * (tree_depth t * span_of t)
  pub flat : is_extra_node t ≡ true → tree_depth t ≡ 1

-- each tree of the list is good
abbrev pub AreGoodTrees : FlatGrammar → List Tree → Type 0
AreGoodTrees g [] = Unit {0}
AreGoodTrees g (t ∷ ts) = IsGoodTree g t × AreGoodTrees g ts
