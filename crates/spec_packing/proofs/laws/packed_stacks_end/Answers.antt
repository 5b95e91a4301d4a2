use Rattle.spec_packing.proofs.PackedLemmas.{deep_served, stops_served, accept_served}
use Rattle.spec_packing.proofs.laws.packed_stacks_end.Goals as goal

pub returns-clause-deep : goal.returns-clause-deep
returns-clause-deep c = deep_served c.laws_hold.ensures

pub returns-clause-stops : goal.returns-clause-stops
returns-clause-stops c = stops_served c.laws_hold.ensures

pub returns-clause-accepts : goal.returns-clause-accepts
returns-clause-accepts c = accept_served c.laws_hold.ensures
