use Rattle.ts_gss.proofs.CellLemmas.{no_deeper}
use Rattle.ts_gss.proofs.graph.Graph.deepest.Goals as goal

pub returns : goal.returns
returns c head there = no_deeper c.self.inside.cells.items c.args.self.now c.self.view_is c.self.inside.deepest head c.self.invariant.0 c.self.invariant.1 there
