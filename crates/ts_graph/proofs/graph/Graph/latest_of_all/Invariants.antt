use Rattle.std.specs.List.{Contains}
use Rattle.ts_graph.specs.declared.latest.Spot.{Spot}
use Rattle.ts_graph.specs.Latest.{Finds, CanGoDown, weight}
use Rattle.ts_graph.proofs.graph.Graph.latest_of_all.Given as goal

abbrev pub invariant-loop-spot : goal.invariant-loop-spot
invariant-loop-spot l = record {
  can : (s : Spot) → Contains l.spots.items s → CanGoDown l.self.heads s;
  finds : Finds l.self.heads l.self.links l.head l.count l.most l.spots.items l.best;
}

abbrev pub decreases-loop-spot : goal.decreases-loop-spot
decreases-loop-spot l = weight l.self.heads l.self.links l.spots.items
