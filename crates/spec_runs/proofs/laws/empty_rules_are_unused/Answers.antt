use Rattle.spec_runs.proofs.RuleLemmas.{empty_start, empty_unused}
use Rattle.spec_runs.proofs.laws.empty_rules_are_unused.Goals as goal

pub returns-clause-start : goal.returns-clause-start
returns-clause-start c = empty_start

pub returns-clause-unused : goal.returns-clause-unused
returns-clause-unused c = empty_unused
