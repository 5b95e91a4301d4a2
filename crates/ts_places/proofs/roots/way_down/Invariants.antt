use Rattle.std.proofs.Common.{◌≡◌, ◌<◌, length}
use Rattle.ts_graph.specs.Down.{links_down, links_from, place_at}
use Rattle.ts_places.proofs.RootLemmas.{GoesDown}
use Rattle.ts_places.proofs.roots.way_down.Given as goal

abbrev pub invariant-loop-next : goal.invariant-loop-next
invariant-loop-next l = record {
  way : GoesDown l.graph.links l.head l.numbers.items l.at;
  low : l.at < length l.graph.heads;
  next_is : links_from l.graph.links l.at l.next ≡ links_down l.graph.links l.at;
}

abbrev pub decreases-loop-next : goal.decreases-loop-next
decreases-loop-next l = place_at l.graph.heads l.at
