-- What a node is, told from outside.
use Rattle.std.specs.Prelude.{◌≡◌, ◌<◌, ℕ, [], length, Some, None, false}
use Rattle.spec_trees.specs.declared.tree.Tree.{Tree}
use Rattle.spec_trees.specs.Trees.{production_of, elements_of, children_of, is_extra_node}
use Rattle.spec_trees.specs.Made.{children_count}
use Rattle.ts_node.specs.declared.kind.NodeKind.{NodeKind}
use Rattle.ts_node.specs.declared.kind.NodeKind.TheVariants as kind

-- a leaf has no production, no elements and no children
pub record IsLeafNode (t : Tree) : Type 0 where
  pub production : production_of t ≡ None
  pub elements : elements_of t ≡ []
  pub children : children_of t ≡ []

-- a node of the production of this number has no elements, and is no extra
pub record IsRuleNode (number : ℕ) (t : Tree) : Type 0 where
  pub production : production_of t ≡ Some number
  pub elements : elements_of t ≡ []
  pub plain : is_extra_node t ≡ false

-- A repetition has no production, and is no extra. It has elements, and they have just its
-- children.
pub record IsRepetitionNode (t : Tree) : Type 0 where
  pub production : production_of t ≡ None
  pub elements : 0 < length (elements_of t)
  pub own : children_count (elements_of t) ≡ length (children_of t)
  pub plain : is_extra_node t ≡ false

-- the node is of this kind
abbrev pub IsOfKind : NodeKind → Tree → Type 0
IsOfKind kind.Leaf t = IsLeafNode t
IsOfKind (kind.Rule number) t = IsRuleNode number t
IsOfKind kind.Repetition t = IsRepetitionNode t
