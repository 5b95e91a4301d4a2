use Rattle.ts_front.proofs.CompileLemmas.{file_line}
use Rattle.ts_front.proofs.compile.table_in.Goals as goal

pub returns-in_ok-line-in-Err-clause-refused : goal.returns-in_ok-line-in-Err-clause-refused
returns-in_ok-line-in-Err-clause-refused c = c.refusal.ensures c.args.bytes.now (file_line c.args.bytes.now c.in-Err.fault _ c.in-Err.ensures.refused c.in_ok-line-in-Err.ensures)
