-- What is known of the children of a reduction, and how deep its node is. It serves private clauses
-- and proofs alone.
use Rattle.std.specs.Prelude.{ℕ, ◌+◌, ◌≤◌, ◌↔◌, max, Bool, List, IsTrue, take, drop, if◌then◌else◌}
use Rattle.spec_trees.specs.declared.tree.Tree.{Tree}
use Rattle.spec_trees.specs.Trees.{all_spans, greatest_depth}
use Rattle.spec_trees.specs.Made.{EndBy}
use Rattle.spec_forced.specs.Sound.{EachHasState}
use Rattle.ts_steps.specs.declared.making.Seen.{Seen}

-- the depth of a node over a first child and others of these depths
abbrev pub depth_by : Bool → ℕ → ℕ → ℕ
depth_by lengthens first others =
    if lengthens then max first (1 + others) else 1 + max first others

-- one more than the deepest child, where a repetition that is lengthened counts by its own children
abbrev pub depth_when : Bool → List Tree → ℕ
depth_when lengthens ts =
    if lengthens then max (greatest_depth (take 1 ts)) (1 + greatest_depth (drop 1 ts))
    else 1 + greatest_depth ts

-- What is known of trees one after another, where so many bytes were examined behind them: their
-- extent covers what was examined for them and behind them, and no smaller one does; and whether
-- they all have states.
pub record IsSeenOf (ts : List Tree) (behind : ℕ) (s : Seen) : Type 0 where
  pub covers : EndBy s.extent 0 ts
  pub past : all_spans ts + behind ≤ s.extent
  pub most : (start limit : ℕ) → start + (all_spans ts + behind) ≤ limit → EndBy limit start ts
      → start + s.extent ≤ limit
  pub stated : IsTrue s.stated ↔ EachHasState ts
