use Rattle.std.proofs.Common.{ap, sym, arith}
use Rattle.spec_graph.specs.declared.graph.Link.{Link}
use Rattle.ts_graph.specs.declared.view.GraphView.{GraphView}
use Rattle.ts_graph.specs.Cells.{link_of}
use Rattle.ts_graph.proofs.OwnLemmas.{one_link, low_is, low_some, low_there, low_depth}
use Rattle.ts_graph.proofs.graph.Graph.link.Goals as goal

pub returns-in-Some-clause-above : goal.returns-in-Some-clause-above
returns-in-Some-clause-above c = λ l at. ap (λ (x : Link). x.above) (one_link c.args.self.now.links c.args.link (link_of c.in-Some.cell.now) l c.in-Some.ensures.link at)

pub returns-in-Some-clause-below : goal.returns-in-Some-clause-below
returns-in-Some-clause-below c = λ l at. ap (λ (x : Link). x.below) (one_link c.args.self.now.links c.args.link (link_of c.in-Some.cell.now) l c.in-Some.ensures.link at)

pub returns-in-Some-clause-depth : goal.returns-in-Some-clause-depth
returns-in-Some-clause-depth c = λ l at. ap (λ (x : Link). x.depth) (one_link c.args.self.now.links c.args.link (link_of c.in-Some.cell.now) l c.in-Some.ensures.link at)

pub overflow_add-result : goal.overflow_add-result
overflow_add-result c =
    let few = c.self.invariant.2.few in
    let b = ap (λ (g : GraphView). g.base) c.self.view_is in
    let low = c.in-None.ensures in
    grind (arith, few, b, low)

pub overflow_add-link : goal.overflow_add-link
overflow_add-link c =
    let few = c.self.invariant.2.few in
    let b = ap (λ (g : GraphView). g.base) c.self.view_is in
    let low = c.in-None.ensures in
    grind (arith, few, b, low)

pub depth-requires-clause-there : goal.depth-requires-clause-there
depth-requires-clause-there c = low_there c.self.inside.stack c.self.inside.base c.self.inside.place c.self.inside.cells.items c.self.invariant.2 c.self.inside.rows.items c.args.self.now c.self.view_is c.args.link c.in-None.ensures

pub depth-requires-clause-some : goal.depth-requires-clause-some
depth-requires-clause-some c = low_some c.self.inside.stack c.self.inside.base c.self.inside.place c.self.inside.cells.items c.self.invariant.2 c.self.inside.rows.items c.args.self.now c.self.view_is c.args.link c.in-None.ensures

pub returns-in-None-clause-above : goal.returns-in-None-clause-above
returns-in-None-clause-above c = λ l at.
    let up = ap (λ (x : Link). x.above) (low_is c.self.inside.stack c.self.inside.base c.self.inside.place c.self.inside.cells.items c.self.invariant.2 c.self.inside.rows.items c.args.self.now c.self.view_is c.args.link c.in-None.ensures l at) in
    omega (arith, up)

pub returns-in-None-clause-below : goal.returns-in-None-clause-below
returns-in-None-clause-below c = λ l at. sym (ap (λ (x : Link). x.below) (low_is c.self.inside.stack c.self.inside.base c.self.inside.place c.self.inside.cells.items c.self.invariant.2 c.self.inside.rows.items c.args.self.now c.self.view_is c.args.link c.in-None.ensures l at))

pub returns-in-None-clause-depth : goal.returns-in-None-clause-depth
returns-in-None-clause-depth c = λ l at. low_depth c.self.inside.stack c.self.inside.base c.self.inside.place c.self.inside.cells.items c.self.invariant.2 c.self.inside.rows.items c.args.self.now c.self.view_is c.args.link c.in-None.ensures c.depth.result c.depth.ensures l at
