use Rattle.std.proofs.Common.{sym}
use Rattle.ts_table.proofs.SetLemmas.{has_at_found}
use Rattle.ts_table.proofs.candidates.pool_has.Goals as goal

pub returns-in-Some : goal.returns-in-Some
returns-in-Some c = has_at_found c.args.pool.now.keys c.args.at c.args.token c.from.result c.in-Some.set.now c.contains.result (sym c.in-Some.ensures.key) c.from.ensures c.contains.ensures
