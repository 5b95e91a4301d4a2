use Rattle.std.proofs.Common.{arith}
use Rattle.ts_gss.proofs.CellLemmas.{all_exact}
use Rattle.ts_gss.proofs.graph.Graph.is_exact.Goals as goal

pub returns : goal.returns
returns c e = all_exact c.self.inside.cells.items c.args.self.now c.self.view_is c.self.inside.exact c.args.head c.self.invariant.0 c.self.invariant.2 c.requires (grind arith)
