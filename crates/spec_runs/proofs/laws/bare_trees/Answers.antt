use Rattle.spec_runs.proofs.BareLemmas.{keeps_all, bare_once, extra_bare, reduced_bare, accepted_bare, lengthened_bare}
use Rattle.spec_runs.proofs.laws.bare_trees.Goals as goal

pub returns-clause-keeps : goal.returns-clause-keeps
returns-clause-keeps c = keeps_all

pub returns-clause-once : goal.returns-clause-once
returns-clause-once c = bare_once

pub returns-clause-extra : goal.returns-clause-extra
returns-clause-extra c = extra_bare

pub returns-clause-reduced : goal.returns-clause-reduced
returns-clause-reduced c = reduced_bare

pub returns-clause-accepted : goal.returns-clause-accepted
returns-clause-accepted c = accepted_bare

pub returns-clause-lengthened : goal.returns-clause-lengthened
returns-clause-lengthened c = lengthened_bare
