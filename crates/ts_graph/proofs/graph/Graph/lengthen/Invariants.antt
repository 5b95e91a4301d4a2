use Rattle.std.proofs.Common.{length}
use Rattle.ts_graph.specs.declared.ways.Part.{Part}
use Rattle.ts_graph.specs.declared.ways.Way.{Way}
use Rattle.ts_graph.specs.Down.{links_from}
use Rattle.ts_graph.specs.Parts.{done_to, undone_to}
use Rattle.ts_graph.proofs.BetweenLemmas.{GoDown}
use Rattle.ts_graph.proofs.PartLemmas.{Lengthens}
use Rattle.ts_graph.proofs.graph.Graph.lengthen.Given as goal

abbrev pub invariant-loop-next : goal.invariant-loop-next
invariant-loop-next l = record {
  go : GoDown l.self.links l.part.way.below l.next;
  undone_is : Lengthens Part (undone_to l.self.heads l.place) l.self.links l.part l.next l.initial.undone.items l.undone.items;
  done_is : Lengthens Way (done_to l.self.heads l.place) l.self.links l.part l.next l.initial.done.items l.done.items;
}

abbrev pub decreases-loop-next : goal.decreases-loop-next
decreases-loop-next l = length (links_from l.self.links l.part.way.below l.next)
