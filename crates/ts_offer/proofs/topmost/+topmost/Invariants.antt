use Rattle.spec_trees.specs.Trees.{tree_depth}
use Rattle.ts_offer.proofs.topmost.+topmost.Given as goal

abbrev pub decreases-topmost : goal.decreases-topmost
decreases-topmost l = tree_depth l.node.now
