use Rattle.spec_packing.proofs.RunLemmas.{run_served, run_through}
use Rattle.spec_packing.proofs.laws.runs_are_served.Goals as goal

pub returns-clause-run : goal.returns-clause-run
returns-clause-run c = run_served c.laws_hold.ensures

pub returns-clause-through : goal.returns-clause-through
returns-clause-through c = run_through c.laws_hold.ensures
