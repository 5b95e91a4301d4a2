use Rattle.spec_packing.proofs.StackLemmas.{serves_same, serves_chain, serves_last}
use Rattle.spec_packing.proofs.laws.configurations_serve.Goals as goal

pub returns-clause-same : goal.returns-clause-same
returns-clause-same c = serves_same

pub returns-clause-through : goal.returns-clause-through
returns-clause-through c = serves_chain

pub returns-clause-last : goal.returns-clause-last
returns-clause-last c = serves_last
