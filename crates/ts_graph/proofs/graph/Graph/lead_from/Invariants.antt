use Rattle.ts_graph.proofs.LeadLemmas.{LeadTo}
use Rattle.ts_graph.proofs.graph.Graph.lead_from.Given as goal

abbrev pub invariant-loop-link : goal.invariant-loop-link
invariant-loop-link l = LeadTo l.self.links l.links l.heads l.link
