-- When one tree may take the place of another, whatever their depths.
use Rattle.std.specs.Prelude.{◌≡◌, ℕ, suc, max, List, [], ◌∷◌}
use Rattle.spec_trees.specs.declared.tree.Tree.{Tree}
use Rattle.spec_trees.specs.Trees.{symbol_of, pad_of, size_of, is_extra_node, maximum}
use Rattle.spec_trees.specs.Made.{Form, of_rule, of_first, of_next}
use Rattle.spec_trees.specs.Choice.{Better}

-- Both have one symbol and the same bytes, and the second is not better.
pub record Replaces (t u : Tree) : Type 0 where
  pub symbol : symbol_of t ≡ symbol_of u
  pub extra : is_extra_node t ≡ is_extra_node u
  pub pad : pad_of t ≡ pad_of u
  pub size : size_of t ≡ size_of u
  pub no_better : Better u t → ⊥

-- as many trees, and each of the first may take the place of the one in its place
abbrev pub AllReplace : List Tree → List Tree → Type 0
AllReplace [] [] = Unit {0}
AllReplace [] (u ∷ us) = ⊥
AllReplace (t ∷ ts) [] = ⊥
AllReplace (t ∷ ts) (u ∷ us) = Replaces t u × AllReplace ts us

-- The depth of the node of this form over children of these depths: one more than the deepest,
-- where a repetition that is lengthened counts by its own children.
abbrev pub depth_over : Form → List ℕ → ℕ
depth_over of_rule ds = suc (maximum ds)
depth_over (of_first alternative) ds = suc (maximum ds)
depth_over (of_next alternative) [] = 1
depth_over (of_next alternative) (d ∷ ds) = max d (suc (maximum ds))
