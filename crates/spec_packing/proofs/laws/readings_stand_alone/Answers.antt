use Rattle.spec_packing.proofs.AloneLemmas.{alone_reduced, alone_steps}
use Rattle.spec_packing.proofs.laws.readings_stand_alone.Goals as goal

pub returns-clause-reduced : goal.returns-clause-reduced
returns-clause-reduced c = alone_reduced c.laws_hold.ensures

pub returns-clause-steps : goal.returns-clause-steps
returns-clause-steps c = alone_steps c.laws_hold.ensures
