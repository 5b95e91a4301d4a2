use Rattle.std.proofs.Common.{◌≤◌, drop, length}
use Rattle.ts_rules.specs.Numbers.{Numbers}
use Rattle.ts_numbering.specs.Shapes.{joins_of, branches_of, IsShapeOf}
use Rattle.ts_numbering.proofs.shape.+shape.Given as goal

abbrev pub invariant-joined_shape-loop-left : goal.invariant-joined_shape-loop-left
invariant-joined_shape-loop-left l = (l.left ≤ length l.members) × ((n : Numbers) → IsShapeOf (joins_of n (drop l.left l.members)) l.all)

abbrev pub decreases-joined_shape-loop-left : goal.decreases-joined_shape-loop-left
decreases-joined_shape-loop-left l = l.left

abbrev pub invariant-branched_shape-loop-left : goal.invariant-branched_shape-loop-left
invariant-branched_shape-loop-left l = (l.left ≤ length l.members) × ((n : Numbers) → IsShapeOf (branches_of n (drop l.left l.members)) l.all)

abbrev pub decreases-branched_shape-loop-left : goal.decreases-branched_shape-loop-left
decreases-branched_shape-loop-left l = l.left
