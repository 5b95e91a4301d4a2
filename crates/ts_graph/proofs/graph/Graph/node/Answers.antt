use Rattle.std.proofs.Common.{ap, arith}
use Rattle.spec_graph.specs.declared.graph.Link.{Link}
use Rattle.ts_graph.specs.declared.view.GraphView.{GraphView}
use Rattle.ts_graph.specs.Cells.{link_of}
use Rattle.ts_graph.proofs.OwnLemmas.{one_link, low_some, low_there, low_tree}
use Rattle.ts_graph.proofs.graph.Graph.node.Goals as goal

pub returns-in-Some : goal.returns-in-Some
returns-in-Some c = λ l at. ap (λ (x : Link). x.tree) (one_link c.args.self.now.links c.args.link (link_of c.in-Some.cell.now) l c.in-Some.ensures.link at)

pub overflow_add-link : goal.overflow_add-link
overflow_add-link c =
    let few = c.self.invariant.2.few in
    let b = ap (λ (g : GraphView). g.base) c.self.view_is in
    let low = c.in-None.ensures in
    grind (arith, few, b, low)

pub node-requires-clause-there : goal.node-requires-clause-there
node-requires-clause-there c = low_there c.self.inside.stack c.self.inside.base c.self.inside.place c.self.inside.cells.items c.self.invariant.2 c.self.inside.rows.items c.args.self.now c.self.view_is c.args.link c.in-None.ensures

pub node-requires-clause-some : goal.node-requires-clause-some
node-requires-clause-some c = low_some c.self.inside.stack c.self.inside.base c.self.inside.place c.self.inside.cells.items c.self.invariant.2 c.self.inside.rows.items c.args.self.now c.self.view_is c.args.link c.in-None.ensures

pub returns-in-None : goal.returns-in-None
returns-in-None c = λ l at. low_tree c.self.inside.stack c.self.inside.base c.self.inside.place c.self.inside.cells.items c.self.invariant.2 c.self.inside.rows.items c.args.self.now c.self.view_is c.args.link c.in-None.ensures c.node.result.now c.node.ensures l at
