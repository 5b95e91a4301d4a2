use Rattle.std.proofs.Common.{◌≡◌, ◌++◌, take}
use Rattle.ts_graph.specs.Parts.{all_nexts, all_done, all_undone}
use Rattle.ts_graph.proofs.graph.Graph.lengthened.Given as goal

abbrev pub invariant-loop-part : goal.invariant-loop-part
invariant-loop-part l = record {
  undone_is : l.undone.items ≡ all_undone l.self.heads l.place (all_nexts l.self.links (take l.part-index l.parts));
  done_is : l.done.items ≡ l.initial.done.items ++ all_done l.self.heads l.place (all_nexts l.self.links (take l.part-index l.parts));
}
