use Rattle.std.proofs.Common.{◌<◌, length}
use Rattle.ts_graph.specs.Down.{place_at}
use Rattle.ts_crossing.specs.Leaving.{StartsWith}
use Rattle.ts_crossing.proofs.leaving.links_down.Given as goal

abbrev pub invariant-loop-at : goal.invariant-loop-at
invariant-loop-at l = record {
  there : l.at < length l.graph.heads;
  starts : StartsWith l.graph.links l.head l.last l.numbers.items l.at;
}

abbrev pub decreases-loop-at : goal.decreases-loop-at
decreases-loop-at l = place_at l.graph.heads l.at
