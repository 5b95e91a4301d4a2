-- The nodes of a marked tree that may be taken over whole.
use Rattle.std.specs.Prelude.{◌≡◌, ℕ, ◌<◌, true, Some, [], ◌∷◌}
use Rattle.spec_trees.specs.declared.tree.Tree.{Tree}
use Rattle.spec_trees.specs.Trees.{span_of, is_settled, state_of}
use Rattle.spec_reuse.specs.Places.{IsIn, IsInTree}

-- A node may be taken over in a state: no edit has reached it, it has that state below it, and it
-- has bytes, so that a parser that takes it goes on.
pub record IsFit (state : ℕ) (t : Tree) : Type 0 where
  pub settled : is_settled t ≡ true
  pub below : state_of t ≡ Some state
  pub some : 0 < span_of t

-- The topmost fit node of a tree that begins at a place: all others that begin there stand in it.
pub record IsTopmost (tree : Tree) (place state : ℕ) (t : Tree) : Type 0 where
  pub there : IsInTree tree t place
  pub fit : IsFit state t
  pub top : (u : Tree) → IsInTree tree u place → IsFit state u → IsIn (t ∷ []) place u place
