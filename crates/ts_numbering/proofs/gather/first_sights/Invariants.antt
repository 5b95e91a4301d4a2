use Rattle.std.proofs.Common.{take}
use Rattle.ts_rules.specs.FirstSights.{AreFirstSights}
use Rattle.ts_numbering.specs.Keys.{trees}
use Rattle.ts_numbering.proofs.gather.first_sights.Given as goal

abbrev pub invariant-loop-tree : goal.invariant-loop-tree
invariant-loop-tree l = AreFirstSights (trees (take l.tree-index l.seen)) (trees l.found.keys)
