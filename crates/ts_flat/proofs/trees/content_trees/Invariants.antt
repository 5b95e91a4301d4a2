use Rattle.std.proofs.Common.{◌≡◌, ◌-◌, length, map, take}
use Rattle.ts_numbering.specs.Keys.{trees}
use Rattle.ts_numbering.specs.Numberings.{numbers_of}
use Rattle.ts_rules.specs.Numbers.{tree_of}
use Rattle.ts_flat.proofs.trees.content_trees.Given as goal

abbrev pub invariant-loop-at : goal.invariant-loop-at
invariant-loop-at l = l.found.items ≡ map (tree_of (numbers_of l.numbering)) (take l.at (trees l.contents))

abbrev pub decreases-loop-at : goal.decreases-loop-at
decreases-loop-at l = length l.contents - l.at
