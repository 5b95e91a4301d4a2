-- What a way down a stack passes.
use Rattle.std.specs.Prelude.{◌≡◌, ℕ, ◌+◌, ◌-◌, ◌≤◌, List, ◌++◌, length, take, drop, reverse, if◌then◌else◌}
use Rattle.spec_trees.specs.declared.tree.Tree.{Tree}
use Rattle.spec_trees.specs.Trees.{is_extra_node, maximum}
use Rattle.spec_trees.specs.Made.{filling, BeginsFilled}
use Rattle.spec_runs.specs.Configurations.{AreExtras}
use Rattle.ts_gss.specs.declared.layer.Layer.{Layer}
use Rattle.ts_gss.specs.Stacks.{trees_on, depths_on}

-- all extras on top of a stack, the topmost first, and the stack under them
pub record IsLifted (stack : List Layer) (extras : List Tree) (under : List Layer) : Type 0 where
  pub trees : trees_on stack ≡ extras ++ trees_on under
  pub all_extras : AreExtras extras
  pub no_more : BeginsFilled (trees_on under)
  pub rest : under ≡ drop (length extras) stack

-- so many trees that are no extras, the lowest first, with the extras between them; and the stack
-- under them
pub record IsTakenOff (stack : List Layer) (count : ℕ) (trees : List Tree) (below : List Layer)
    : Type 0 where
  pub trees_are : trees_on stack ≡ reverse trees ++ trees_on below
  pub filled : length (filling trees) ≡ count
  pub begins : BeginsFilled trees
  pub rest : below ≡ drop (length trees) stack

-- the depths of so many layers from the top of a stack, the lowest first
abbrev pub depths_of : ℕ → List Layer → List ℕ
depths_of count stack = reverse (depths_on (take count stack))

-- the greatest depth among the first so many, and among the others
abbrev pub AreDepthsOf : List ℕ → ℕ → ℕ → Type 0
AreDepthsOf depths first others =
    (first ≡ maximum (take 1 depths)) × (others ≡ maximum (drop 1 depths))

-- how many trees are left to take after this one
abbrev pub still_wanting : Tree → ℕ → ℕ
still_wanting t wanting = if is_extra_node t then wanting else wanting - 1

-- ---- under way

-- extras were lifted down to this stack
pub record Lifting (stack : List Layer) (extras : List Tree) (under : List Layer) : Type 0 where
  pub trees : trees_on stack ≡ extras ++ trees_on under
  pub all_extras : AreExtras extras
  pub rest : under ≡ drop (length extras) stack

-- trees were taken down to this stack, the topmost first, and some are still wanting
pub record Taking (stack : List Layer) (count : ℕ) (trees : List Tree) (below : List Layer)
    (wanting : ℕ) : Type 0 where
  pub trees_are : trees_on stack ≡ trees ++ trees_on below
  pub filled : length (filling trees) + wanting ≡ count
  pub enough : wanting ≤ length (filling (trees_on below))
  pub begins : wanting ≡ 0 → BeginsFilled (reverse trees)
  pub rest : below ≡ drop (length trees) stack
