use Rattle.std.proofs.Common.{◌∙◌, ◌-◌, ap}
use Rattle.ts_graph.specs.declared.graph.Row.{Row}
use Rattle.ts_graph.proofs.HeadLemmas.{heads_set, newest_same}
use Rattle.ts_graph.proofs.graph.set_beside.Goals as goal

pub returns-clause-heads : goal.returns-clause-heads
returns-clause-heads c =
    heads_set c.args.rows.now.items (c.args.number - c.args.base - 1) c.with_beside.result c.index.result.now (c.with_beside.ensures.head ∙ ap (λ (r : Row). r.head) c.index.ensures)

pub returns-clause-newest : goal.returns-clause-newest
returns-clause-newest c =
    newest_same c.args.rows.now.items (c.args.number - c.args.base - 1) c.with_beside.result c.index.result.now (c.with_beside.ensures.newest ∙ ap (λ (r : Row). r.newest) c.index.ensures)
