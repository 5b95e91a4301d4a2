use Rattle.std.proofs.Common.{length}
use Rattle.ts_node.proofs.node.Run.+children_before.Given as goal

abbrev pub decreases-children_before : goal.decreases-children_before
decreases-children_before l = length l.self.now.elements
