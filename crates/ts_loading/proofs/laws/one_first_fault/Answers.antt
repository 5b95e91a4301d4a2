use Rattle.ts_loading.proofs.FaultLemmas.{TreeLaws, number_once, first_once, first_or_none}
use Rattle.ts_loading.proofs.laws.one_first_fault.Goals as goal

pub returns-clause-number : goal.returns-clause-number
returns-clause-number c = number_once (record { read_once = c.one_query.ensures.read; refused = c.refused_is_not_read.ensures; fault_once = c.one_fault.ensures })

pub returns-clause-fault : goal.returns-clause-fault
returns-clause-fault c = first_once (record { read_once = c.one_query.ensures.read; refused = c.refused_is_not_read.ensures; fault_once = c.one_fault.ensures })

pub returns-clause-either : goal.returns-clause-either
returns-clause-either c = first_or_none (record { read_once = c.one_query.ensures.read; refused = c.refused_is_not_read.ensures; fault_once = c.one_fault.ensures })
