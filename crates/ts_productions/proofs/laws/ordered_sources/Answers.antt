use Rattle.ts_productions.proofs.OrderLemmas.{ordered}
use Rattle.ts_productions.proofs.laws.ordered_sources.Goals as goal

pub returns : goal.returns
returns c g n x s lists numbers defined of order = ordered g n x lists numbers defined s of order
