use Rattle.ts_front.proofs.TableLemmas.{one_fault, no_table}
use Rattle.ts_front.proofs.laws.one_table_fault.Goals as goal

pub returns : goal.returns
returns c = record { fault = one_fault; either = no_table }
