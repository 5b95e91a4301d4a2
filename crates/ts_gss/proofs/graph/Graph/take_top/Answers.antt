use Rattle.ts_gss.proofs.CellLemmas.{some_first, top_stack, top_lower, top_left, top_lie, top_shallow, top_exact}
use Rattle.ts_gss.proofs.graph.Graph.take_top.Goals as goal

pub last_of-requires : goal.last_of-requires
last_of-requires c = some_first c.self.inside.cells.items c.args.self.now c.self.view_is c.truncate.new.self.items c.args.head c.truncate.ensures.items c.requires.there c.requires.some

pub invariant_of-self : goal.invariant_of-self
invariant_of-self c = (
  top_lie c.self.inside.cells.items c.args.self.now c.self.view_is c.truncate.new.self.items c.last_of.new.cells.items c.args.head c.last_of.result c.truncate.ensures.items c.last_of.ensures c.self.invariant.0 c.requires.there c.requires.some,
  top_shallow c.self.inside.cells.items c.args.self.now c.self.view_is c.truncate.new.self.items c.last_of.new.cells.items c.args.head c.last_of.result c.truncate.ensures.items c.last_of.ensures c.self.invariant.0 c.requires.there c.requires.some c.self.inside.deepest c.self.invariant.1,
  top_exact c.self.inside.cells.items c.args.self.now c.self.view_is c.truncate.new.self.items c.last_of.new.cells.items c.args.head c.last_of.result c.truncate.ensures.items c.last_of.ensures c.self.invariant.0 c.requires.there c.requires.some c.self.inside.exact c.self.invariant.2,
)

pub returns-clause-top : goal.returns-clause-top
returns-clause-top c = top_stack c.self.inside.cells.items c.args.self.now c.self.view_is c.truncate.new.self.items c.last_of.new.cells.items c.args.head c.last_of.result c.truncate.ensures.items c.last_of.ensures c.self.invariant.0 c.requires.there c.requires.some

pub returns-clause-lower : goal.returns-clause-lower
returns-clause-lower c = top_lower c.self.inside.cells.items c.args.self.now c.self.view_is c.truncate.new.self.items c.last_of.new.cells.items c.args.head c.last_of.result c.truncate.ensures.items c.last_of.ensures c.self.invariant.0 c.requires.there c.requires.some

pub returns-clause-left : goal.returns-clause-left
returns-clause-left c = top_left c.self.inside.cells.items c.args.self.now c.self.view_is c.truncate.new.self.items c.last_of.new.cells.items c.args.head c.last_of.result c.truncate.ensures.items c.last_of.ensures c.self.invariant.0 c.requires.there c.requires.some
