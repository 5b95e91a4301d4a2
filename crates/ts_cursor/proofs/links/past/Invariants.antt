use Rattle.std.proofs.Common.{ℕ, ◌<◌, ◌≤◌, ◌-◌, length}
use Rattle.spec_trees.specs.Family.{depth_at}
use Rattle.ts_cursor.proofs.links.past.Given as goal

abbrev pub invariant-later : goal.invariant-later
invariant-later l = record {
  later : l.k < l.m;
  within : l.m ≤ length l.nodes;
  between : (i : ℕ) → l.k < i → i < l.m → depth_at l.nodes l.k < depth_at l.nodes i;
}

abbrev pub decreases-later : goal.decreases-later
decreases-later l = length l.nodes - l.m
