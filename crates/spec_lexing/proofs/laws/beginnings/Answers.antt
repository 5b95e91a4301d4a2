use Rattle.spec_lexing.proofs.BeginLemmas.{begins_nothing, begins_within}
use Rattle.spec_lexing.proofs.GoingOnLemmas.{begins_prefix, begins_longer, begins_more, begins_follows}
use Rattle.spec_lexing.proofs.laws.beginnings.Goals as goal

pub returns-clause-nothing : goal.returns-clause-nothing
returns-clause-nothing c = begins_nothing

pub returns-clause-prefix : goal.returns-clause-prefix
returns-clause-prefix c = begins_prefix

pub returns-clause-longer : goal.returns-clause-longer
returns-clause-longer c = begins_longer

pub returns-clause-more : goal.returns-clause-more
returns-clause-more c = begins_more

pub returns-clause-follows : goal.returns-clause-follows
returns-clause-follows c = begins_follows

pub returns-clause-within : goal.returns-clause-within
returns-clause-within c = begins_within
