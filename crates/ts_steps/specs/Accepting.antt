-- What acceptance makes of a stack.
use Rattle.std.specs.Prelude.{◌≡◌, ℕ, suc, false, List, ◌∷◌, ◌++◌, reverse}
use Rattle.spec_trees.specs.declared.tree.Tree.{Tree}
use Rattle.spec_trees.specs.Trees.{is_extra_node}
use Rattle.spec_trees.specs.Made.{accepted}
use Rattle.spec_runs.specs.Configurations.{AreExtras}

-- The node is the root of a text of this size: it has all extras that stand on the stack before and
-- after the start rule's node, and examined the whole text and its end.
pub record IsWholeRoot (size : ℕ) (stack : List Tree) (node : Tree) : Type 0 where
  pub before : List Tree
  pub root : Tree
  pub after : List Tree
  pub stack_is : stack ≡ reverse after ++ root ∷ reverse before
  pub before_extras : AreExtras before
  pub root_fills : is_extra_node root ≡ false
  pub after_extras : AreExtras after
  pub node_is : node ≡ accepted root before after (suc size)
