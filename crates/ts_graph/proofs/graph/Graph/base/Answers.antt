use Rattle.std.proofs.Common.{ap}
use Rattle.ts_graph.specs.declared.view.GraphView.{GraphView}
use Rattle.ts_graph.proofs.UnderLemmas.{lies_over}
use Rattle.ts_graph.proofs.graph.Graph.base.Goals as goal

pub returns-clause-is : goal.returns-clause-is
returns-clause-is c = ap (λ (g : GraphView). g.base) c.self.view_is

pub returns-clause-lies : goal.returns-clause-lies
returns-clause-lies c = lies_over c.self.inside.stack c.self.inside.base c.self.inside.place c.self.inside.cells.items c.self.invariant.2 c.self.inside.rows.items c.args.self.now c.self.view_is
