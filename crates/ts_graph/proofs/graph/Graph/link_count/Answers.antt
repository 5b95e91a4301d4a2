use Rattle.std.proofs.Common.{arith}
use Rattle.ts_graph.proofs.OwnLemmas.{links_all}
use Rattle.ts_graph.proofs.graph.Graph.link_count.Goals as goal

pub returns : goal.returns
returns c =
    let n = links_all c.self.inside.stack c.self.inside.base c.self.inside.place c.self.inside.cells.items c.self.invariant.2 c.self.inside.rows.items c.args.self.now c.self.view_is in
    omega (arith, n, c.len.ensures, c.self.inside.cells.ok)
