use Rattle.std.proofs.Common.{ap, ◌-◌, arith}
use Rattle.ts_graph.specs.declared.view.GraphView.{GraphView}
use Rattle.ts_graph.proofs.OwnLemmas.{first_low, first_none}
use Rattle.ts_graph.proofs.graph.Graph.first_down.Goals as goal

pub returns-in-Some : goal.returns-in-Some
returns-in-Some c = c.in-Some.ensures.2

pub returns-then-head-eq0 : goal.returns-then-head-eq0
returns-then-head-eq0 c = first_none c.self.inside.stack c.self.inside.base c.self.inside.place c.self.inside.cells.items c.self.invariant.2 c.self.inside.rows.items c.args.self.now c.self.view_is c.self.invariant.0 c.args.head c.if-head-eq0.true

pub returns-else-head-eq0 : goal.returns-else-head-eq0
returns-else-head-eq0 c =
    let low = c.in-None.ensures in
    let b = ap (λ (g : GraphView). g.base) c.self.view_is in
    let some = c.if-head-eq0.false in
    first_low c.self.inside.stack c.self.inside.base c.self.inside.place c.self.inside.cells.items c.self.invariant.2 c.self.inside.rows.items c.args.self.now c.self.view_is c.self.invariant.0 c.args.head (c.args.head - 1) (omega (arith, some)) (omega (arith, low, b))
