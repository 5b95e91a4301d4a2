use Rattle.std.proofs.Common.{subst, arith}
use Rattle.ts_graph.specs.declared.view.GraphView.{GraphView}
use Rattle.ts_graph.specs.Down.{HoldsEachOnce}
use Rattle.ts_graph.proofs.OwnLemmas.{heads_all}
use Rattle.ts_graph.proofs.graph.Graph.count.Goals as goal

pub overflow_add-first : goal.overflow_add-first
overflow_add-first c = let few = c.self.invariant.2.few in grind (arith, few)

pub overflow_add-result : goal.overflow_add-result
overflow_add-result c = let few = c.self.invariant.2.few in grind (arith, few, c.len.ensures, c.self.inside.rows.ok)

pub returns-clause-count : goal.returns-clause-count
returns-clause-count c =
    let n = heads_all c.self.inside.stack c.self.inside.base c.self.inside.place c.self.inside.cells.items c.self.invariant.2 c.self.inside.rows.items c.args.self.now c.self.view_is in
    omega (arith, n, c.len.ensures, c.self.inside.rows.ok)

pub returns-clause-once : goal.returns-clause-once
returns-clause-once c = subst (λ (g : GraphView). HoldsEachOnce g.heads g.links) c.self.view_is c.self.invariant.0.each_once
