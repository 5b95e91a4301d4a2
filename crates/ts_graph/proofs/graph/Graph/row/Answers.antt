use Rattle.std.proofs.Common.{◌-◌, ap, arith}
use Rattle.ts_graph.specs.declared.view.GraphView.{GraphView}
use Rattle.ts_graph.proofs.OwnLemmas.{heads_all, own_row}
use Rattle.ts_graph.proofs.graph.Graph.row.Goals as goal

pub index-requires : goal.index-requires
index-requires c =
    let n = heads_all c.self.inside.stack c.self.inside.base c.self.inside.place c.self.inside.cells.items c.self.invariant.2 c.self.inside.rows.items c.args.self.now c.self.view_is in
    let past = c.if-number-self.false in
    let low = c.requires in
    omega (arith, n, past, low)

pub returns-then-number-self : goal.returns-then-number-self
returns-then-number-self c =
    let b = ap (λ (g : GraphView). g.base) c.self.view_is in
    let low = c.if-number-self.true in
    omega (arith, b, low)

pub returns-else-number-self : goal.returns-else-number-self
returns-else-number-self c =
    let n = heads_all c.self.inside.stack c.self.inside.base c.self.inside.place c.self.inside.cells.items c.self.invariant.2 c.self.inside.rows.items c.args.self.now c.self.view_is in
    let past = c.if-number-self.false in
    let low = c.requires in
    own_row c.self.inside.stack c.self.inside.base c.self.inside.place c.self.inside.cells.items c.self.invariant.2 c.self.inside.rows.items c.args.self.now c.self.view_is c.self.invariant.0 c.args.number (c.args.number - c.self.inside.base - 1) c.index.result.now (omega (arith, past)) (omega (arith, n, past, low)) c.index.ensures
