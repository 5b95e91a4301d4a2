use Rattle.spec_packing.proofs.RunLemmas.{step_from}
use Rattle.spec_packing.proofs.laws.configurations_step.Goals as goal

pub returns : goal.returns
returns c = step_from c.laws_hold.ensures
