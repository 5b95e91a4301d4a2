use Rattle.spec_packing.proofs.RankLemmas.{serves_itself, serves_chains, serves_bare}
use Rattle.spec_packing.proofs.laws.trees_serve.Goals as goal

pub returns-clause-same : goal.returns-clause-same
returns-clause-same c = serves_itself

pub returns-clause-through : goal.returns-clause-through
returns-clause-through c = serves_chains

pub returns-clause-bare : goal.returns-clause-bare
returns-clause-bare c t u s = serves_bare t u (c.bare_trees.ensures.keeps t) (c.bare_trees.ensures.keeps u) s
