use Rattle.std.proofs.Common.{length}
use Rattle.ts_graph.specs.Down.{links_from}
use Rattle.ts_graph.proofs.BetweenLemmas.{Seeks}
use Rattle.ts_graph.proofs.graph.Graph.between.Given as goal

abbrev pub invariant-loop-next : goal.invariant-loop-next
invariant-loop-next l = Seeks l.self.links l.above l.below l.next

abbrev pub decreases-loop-next : goal.decreases-loop-next
decreases-loop-next l = length (links_from l.self.links l.above l.next)
