use Rattle.std.proofs.Common.{◌∙◌}
use Rattle.ts_graph.proofs.graph.join_ring.Goals as goal

pub returns-clause-heads : goal.returns-clause-heads
returns-clause-heads c = c.set_beside-2.ensures.heads ∙ c.set_beside.ensures.heads

pub returns-clause-newest : goal.returns-clause-newest
returns-clause-newest c = c.set_beside-2.ensures.newest ∙ c.set_beside.ensures.newest
