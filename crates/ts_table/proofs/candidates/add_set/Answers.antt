use Rattle.std.proofs.Common.{sym}
use Rattle.ts_table.proofs.SetLemmas.{union_has}
use Rattle.ts_table.proofs.candidates.add_set.Goals as goal

pub returns-in-Some-clause-members : goal.returns-in-Some-clause-members
returns-in-Some-clause-members c = union_has c.args.pool.now.keys c.args.at c.in-Some.set.now c.args.found.now c.union_with.new.self (sym c.in-Some.ensures.key) c.union_with.ensures.members
