use Rattle.std.proofs.Common.{◌≡◌, ◌++◌, take}
use Rattle.ts_rules.specs.Sights.{seen_trees, all_seen}
use Rattle.ts_rules.proofs.sights.+see.Given as goal

abbrev pub invariant-see_all-loop-tree : goal.invariant-see_all-loop-tree
invariant-see_all-loop-tree l = seen_trees l.spots.items ≡ seen_trees l.initial.spots.items ++ all_seen (take l.tree-index l.trees) l.inside
