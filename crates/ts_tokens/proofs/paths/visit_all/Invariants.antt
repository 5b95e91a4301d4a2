use Rattle.ts_tokens.specs.Paths.{graph_of}
use Rattle.ts_tokens.proofs.PathLemmas.{Ranking}
use Rattle.ts_tokens.proofs.paths.visit_all.Given as goal

abbrev pub invariant-loop-node : goal.invariant-loop-node
invariant-loop-node l = Ranking (graph_of l.graph) l.marks l.next l.node
