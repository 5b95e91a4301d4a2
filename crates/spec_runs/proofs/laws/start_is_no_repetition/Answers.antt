use Rattle.spec_runs.proofs.RuleLemmas.{start_plain}
use Rattle.spec_runs.proofs.laws.start_is_no_repetition.Goals as goal

pub returns : goal.returns
returns c = start_plain
