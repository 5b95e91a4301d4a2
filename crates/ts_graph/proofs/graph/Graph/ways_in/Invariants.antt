use Rattle.ts_graph.specs.declared.ways.Part.{Part}
use Rattle.ts_graph.specs.Parts.{EndsAt, CanGoOn, highest}
use Rattle.ts_graph.proofs.ListLemmas.{Has}
use Rattle.ts_graph.proofs.WayLemmas.{Searches}
use Rattle.ts_graph.proofs.graph.Graph.ways_in.Given as goal

abbrev pub invariant-loop-alloc : goal.invariant-loop-alloc
invariant-loop-alloc l = record {
  can : (p : Part) → Has l.undone.items p → CanGoOn l.self.heads p;
  searches : Searches (EndsAt l.self.heads l.place) l.self.links l.head l.count l.undone.items l.done.items;
}

abbrev pub decreases-loop-alloc : goal.decreases-loop-alloc
decreases-loop-alloc l = highest l.self.heads l.undone.items
