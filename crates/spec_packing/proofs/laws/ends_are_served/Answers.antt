use Rattle.spec_packing.proofs.RunLemmas.{deep_served, stops_served, accept_served}
use Rattle.spec_packing.proofs.laws.ends_are_served.Goals as goal

pub returns-clause-deep : goal.returns-clause-deep
returns-clause-deep c = deep_served c.laws_hold.ensures

pub returns-clause-stops : goal.returns-clause-stops
returns-clause-stops c g text at other place s stops = stops_served g text at other s place stops

pub returns-clause-accepts : goal.returns-clause-accepts
returns-clause-accepts c = accept_served c.laws_hold.ensures
