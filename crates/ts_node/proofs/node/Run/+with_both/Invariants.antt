use Rattle.std.proofs.Common.{length}
use Rattle.ts_node.proofs.node.Run.+with_both.Given as goal

abbrev pub decreases-with_both : goal.decreases-with_both
decreases-with_both l = length l.run.now.elements
