use Rattle.std.proofs.lemmas.Result.{err_from_is_err_and}
use Rattle.ts_front.proofs.TableLemmas.{items_refuse, table_refuses, has_table}
use Rattle.ts_front.proofs.tables.built.Goals as goal

pub returns-in_err-items-clause-refused : goal.returns-in_err-items-clause-refused
returns-in_err-items-clause-refused c =
    let p = err_from_is_err_and c.from_residual.result c.from_residual.ensures.1 in
    rw (p.1, p.2) (items_refuse c.args.grammar c.in_err-items.field-0.0 c.in_err-items.ensures.many)

pub returns-in_err-table-clause-refused : goal.returns-in_err-table-clause-refused
returns-in_err-table-clause-refused c =
    let p = err_from_is_err_and c.from_residual-in_err-table.result c.from_residual-in_err-table.ensures.1 in
    rw (p.1, p.2) (table_refuses c.args.grammar c.in_err-table.field-0.0 c.in_ok-items.ensures.fits c.in_err-table.ensures.conflict)

pub returns-clause-has : goal.returns-clause-has
returns-clause-has c = has_table c.args.grammar c.in_ok-table.table c.in_ok-items.ensures.fits c.stands.ensures c.in_ok-table.ensures.grammar
