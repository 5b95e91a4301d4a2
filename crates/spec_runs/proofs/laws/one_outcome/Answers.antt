use Rattle.spec_runs.proofs.OutcomeLemmas.{one_outcome}
use Rattle.spec_runs.proofs.laws.one_outcome.Goals as goal

pub returns : goal.returns
returns c = one_outcome
