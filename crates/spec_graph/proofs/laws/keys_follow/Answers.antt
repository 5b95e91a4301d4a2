use Rattle.spec_graph.proofs.KeyLemmas.{next_rank, next_start, next_look}
use Rattle.spec_graph.proofs.laws.keys_follow.Goals as goal

pub returns-clause-rank : goal.returns-clause-rank
returns-clause-rank c = next_rank

pub returns-clause-start : goal.returns-clause-start
returns-clause-start c = next_start

pub returns-clause-look : goal.returns-clause-look
returns-clause-look c = next_look
