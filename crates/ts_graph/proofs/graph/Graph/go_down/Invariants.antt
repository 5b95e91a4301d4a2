use Rattle.std.proofs.Common.{length}
use Rattle.ts_graph.specs.Down.{links_from}
use Rattle.ts_graph.proofs.LatestLemmas.{GoesOver}
use Rattle.ts_graph.proofs.graph.Graph.go_down.Given as goal

abbrev pub invariant-loop-next : goal.invariant-loop-next
invariant-loop-next l = GoesOver l.self.heads l.self.links l.most l.initial.spots.items l.spot l.fn.before l.next l.spots.items l.best

abbrev pub decreases-loop-next : goal.decreases-loop-next
decreases-loop-next l = length (links_from l.self.links l.spot.head l.next)
