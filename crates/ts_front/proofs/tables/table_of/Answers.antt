use Rattle.ts_front.proofs.TableLemmas.{exact_is}
use Rattle.ts_front.proofs.tables.table_of.Goals as goal

pub returns-clause-exact : goal.returns-clause-exact
returns-clause-exact c = exact_is c.args.grammar c.built.result (c.one_table_fault.ensures.fault c.args.grammar) (c.one_table_fault.ensures.either c.args.grammar) c.built.ensures.has c.built.ensures.refused
