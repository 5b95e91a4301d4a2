use Rattle.spec_forced.proofs.OnlyLemmas.{meet_self, meet_step, meet_chain, meet_alike, meet_fork}
use Rattle.spec_forced.proofs.laws.only_runs_meet.Goals as goal

pub returns-clause-same : goal.returns-clause-same
returns-clause-same c = meet_self

pub returns-clause-step : goal.returns-clause-step
returns-clause-step c = meet_step

pub returns-clause-joined : goal.returns-clause-joined
returns-clause-joined c = meet_chain

pub returns-clause-ends : goal.returns-clause-ends
returns-clause-ends c = meet_alike

pub returns-clause-fork : goal.returns-clause-fork
returns-clause-fork c = meet_fork
