use Rattle.std.proofs.Common.{◌-◌, ap, arith}
use Rattle.ts_graph.specs.declared.view.GraphView.{GraphView}
use Rattle.ts_graph.proofs.OwnLemmas.{links_all, is_cell}
use Rattle.ts_graph.proofs.graph.Graph.cell.Goals as goal

pub index-requires : goal.index-requires
index-requires c =
    let n = links_all c.self.inside.stack c.self.inside.base c.self.inside.place c.self.inside.cells.items c.self.invariant.2 c.self.inside.rows.items c.args.self.now c.self.view_is in
    let past = c.if-link-self.false in
    let low = c.requires in
    omega (arith, n, past, low)

pub returns-then-link-self : goal.returns-then-link-self
returns-then-link-self c =
    let b = ap (λ (g : GraphView). g.base) c.self.view_is in
    let low = c.if-link-self.true in
    omega (arith, b, low)

pub returns-else-link-self : goal.returns-else-link-self
returns-else-link-self c =
    let n = links_all c.self.inside.stack c.self.inside.base c.self.inside.place c.self.inside.cells.items c.self.invariant.2 c.self.inside.rows.items c.args.self.now c.self.view_is in
    let past = c.if-link-self.false in
    let low = c.requires in
    is_cell c.self.inside.stack c.self.inside.base c.self.inside.place c.self.inside.cells.items c.self.invariant.2 c.self.inside.rows.items c.args.self.now c.self.view_is c.self.invariant.0 c.self.inside.extras c.self.invariant.1 c.args.link (c.args.link - c.self.inside.base) c.index.result.now (omega (arith, past)) (omega (arith, n, past, low)) c.index.ensures
