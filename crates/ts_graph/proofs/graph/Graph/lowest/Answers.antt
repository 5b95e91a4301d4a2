use Rattle.std.proofs.Common.{subst, arith}
use Rattle.spec_graph.specs.declared.graph.Link.{Link}
use Rattle.ts_graph.specs.Bounds.{IsBound}
use Rattle.ts_graph.specs.Cells.{link_of}
use Rattle.ts_graph.proofs.OwnLemmas.{one_link}
use Rattle.ts_graph.proofs.graph.Graph.lowest.Goals as goal

pub returns-in-Some-clause-bound : goal.returns-in-Some-clause-bound
returns-in-Some-clause-bound c = λ l at.
    subst (λ (x : Link). IsBound c.args.self.now.heads c.args.self.now.links c.args.link x.above c.in-Some.cell.now.lowest)
    (one_link c.args.self.now.links c.args.link (link_of c.in-Some.cell.now) l c.in-Some.ensures.link at) c.in-Some.ensures.lowest

pub returns-in-Some-clause-own : goal.returns-in-Some-clause-own
returns-in-Some-clause-own c = λ less. absurd (let own = c.in-Some.ensures.own in omega (arith, less, own))

pub returns-in-None-clause-bound : goal.returns-in-None-clause-bound
returns-in-None-clause-bound c = λ l at j m there same low. omega arith
