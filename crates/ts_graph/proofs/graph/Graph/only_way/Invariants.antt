use Rattle.std.proofs.Common.{◌<◌, length}
use Rattle.ts_graph.specs.Down.{place_at}
use Rattle.ts_graph.proofs.OnlyLemmas.{GoesOnly}
use Rattle.ts_graph.proofs.graph.Graph.only_way.Given as goal

abbrev pub invariant-loop-wanting : goal.invariant-loop-wanting
invariant-loop-wanting l = record {
  there : l.at < length l.self.heads;
  goes : GoesOnly l.self.links l.head l.count l.numbers.items l.at l.wanting;
}

abbrev pub decreases-loop-wanting : goal.decreases-loop-wanting
decreases-loop-wanting l = place_at l.self.heads l.at
