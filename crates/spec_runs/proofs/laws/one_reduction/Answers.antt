use Rattle.spec_runs.proofs.ReductionLemmas.{one_reduction}
use Rattle.spec_runs.proofs.laws.one_reduction.Goals as goal

pub returns : goal.returns
returns c = one_reduction
