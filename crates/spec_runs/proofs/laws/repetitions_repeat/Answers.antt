use Rattle.spec_runs.proofs.RuleLemmas.{repeated}
use Rattle.spec_runs.proofs.laws.repetitions_repeat.Goals as goal

pub returns : goal.returns
returns c = repeated
