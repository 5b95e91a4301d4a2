use Rattle.ts_gss.proofs.CellLemmas.{lie_cut, shallow_first, exact_first, stacks_cut, there_cut, stack_cut}
use Rattle.ts_gss.proofs.graph.Graph.cut.Goals as goal

pub invariant_of-self : goal.invariant_of-self
invariant_of-self c = (
  lie_cut c.self.inside.cells.items c.args.self.now c.self.view_is c.truncate.new.self.items c.args.head c.truncate.ensures.items c.self.invariant.0,
  shallow_first c.self.inside.cells.items c.truncate.new.self.items c.args.head c.self.inside.deepest c.truncate.ensures.items c.self.invariant.1,
  exact_first c.self.inside.cells.items c.truncate.new.self.items c.args.head c.self.inside.exact c.truncate.ensures.items c.self.invariant.2,
)

pub returns-clause-cut : goal.returns-clause-cut
returns-clause-cut c = stacks_cut c.self.inside.cells.items c.args.self.now c.self.view_is c.truncate.new.self.items c.args.head c.truncate.ensures.items c.requires

pub returns-clause-stack : goal.returns-clause-stack
returns-clause-stack c = stack_cut c.args.self.now _ c.args.head (stacks_cut c.self.inside.cells.items c.args.self.now c.self.view_is c.truncate.new.self.items c.args.head c.truncate.ensures.items c.requires) c.requires

pub returns-clause-there : goal.returns-clause-there
returns-clause-there c = there_cut c.self.inside.cells.items c.args.self.now c.self.view_is _ c.args.head (stacks_cut c.self.inside.cells.items c.args.self.now c.self.view_is c.truncate.new.self.items c.args.head c.truncate.ensures.items c.requires) c.requires
