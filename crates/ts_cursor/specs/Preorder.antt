-- Where visible nodes start, in their order.
use Rattle.std.specs.Prelude.{◌≡◌, ℕ, ◌<◌, ◌≤◌, List, Some, slice_get}
use Rattle.spec_trees.specs.declared.visible.VisibleNode.{VisibleNode}

-- in preorder no node starts before an earlier one does
abbrev pub StartsRise : List VisibleNode → Type 0
StartsRise nodes =
    (j k : ℕ) (a b : VisibleNode) → j < k
    → slice_get nodes j ≡ Some a → slice_get nodes k ≡ Some b → a.start ≤ b.start
