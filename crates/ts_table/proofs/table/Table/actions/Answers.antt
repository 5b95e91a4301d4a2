use Rattle.std.proofs.Common.{subst}
use Rattle.ts_table.specs.Tables.{IsTable}
use Rattle.ts_table.proofs.ViewLemmas.{list_is, exact_actions, once_each, few_each}
use Rattle.ts_table.proofs.table.Table.actions.Goals as goal

pub returns-clause-list : goal.returns-clause-list
returns-clause-list c = list_is c.args.self.now c.self.inside.grammar c.self.inside.arrays c.args.state c.args.token.0 c.actions.result.now c.self.view_is c.actions.ensures

pub returns-clause-exact : goal.returns-clause-exact
returns-clause-exact c = exact_actions c.args.self.now c.args.state c.args.token.0 c.actions.result.now (subst IsTable c.self.view_is c.self.invariant) (returns-clause-list c)

pub returns-clause-once : goal.returns-clause-once
returns-clause-once c = once_each c.args.self.now c.args.state c.args.token.0 c.actions.result.now (subst IsTable c.self.view_is c.self.invariant) (returns-clause-list c)

pub returns-clause-few : goal.returns-clause-few
returns-clause-few c = few_each c.args.self.now c.args.state c.args.token.0 c.actions.result.now (returns-clause-list c)
