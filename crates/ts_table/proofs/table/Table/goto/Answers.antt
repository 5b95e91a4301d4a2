use Rattle.std.proofs.Common.{subst}
use Rattle.ts_table.specs.Tables.{IsTable}
use Rattle.ts_table.proofs.ViewLemmas.{next_is, leads_on, exact_goto}
use Rattle.ts_table.proofs.table.Table.goto.Goals as goal

pub returns-clause-next : goal.returns-clause-next
returns-clause-next c = next_is c.args.self.now c.self.inside.grammar c.self.inside.arrays c.args.state c.args.symbol.0 c.goto.result c.self.view_is c.goto.ensures

pub returns-clause-leads : goal.returns-clause-leads
returns-clause-leads c read = leads_on c.args.self.now read c.args.state c.args.symbol.0 c.goto.result (returns-clause-next c)

pub returns-clause-exact : goal.returns-clause-exact
returns-clause-exact c = exact_goto c.args.self.now c.args.state c.args.symbol.0 c.goto.result (subst IsTable c.self.view_is c.self.invariant) (returns-clause-next c)
