use Rattle.std.proofs.Common.{arith}
use Rattle.ts_gss.proofs.CellLemmas.{empty_there, some_there}
use Rattle.ts_gss.proofs.graph.Graph.is_empty.Goals as goal

pub returns-clause-empty : goal.returns-clause-empty
returns-clause-empty c e = empty_there c.self.inside.cells.items c.args.self.now c.self.view_is c.args.head (grind arith)

pub returns-clause-some : goal.returns-clause-some
returns-clause-some c e = some_there c.self.inside.cells.items c.args.self.now c.self.view_is c.args.head (λ zero_is. grind arith) c.requires c.self.invariant.0
