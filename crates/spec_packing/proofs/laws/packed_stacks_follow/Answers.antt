use Rattle.spec_packing.proofs.PackedLemmas.{own_met, step_met, deep_met, leads_on}
use Rattle.spec_packing.proofs.laws.packed_stacks_follow.Goals as goal

pub returns-clause-own : goal.returns-clause-own
returns-clause-own c = own_met c.laws_hold.ensures

pub returns-clause-met : goal.returns-clause-met
returns-clause-met c = step_met c.laws_hold.ensures

pub returns-clause-deep : goal.returns-clause-deep
returns-clause-deep c = deep_met c.laws_hold.ensures

pub returns-clause-on : goal.returns-clause-on
returns-clause-on c = leads_on c.laws_hold.ensures
