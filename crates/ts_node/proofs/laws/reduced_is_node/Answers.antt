use Rattle.ts_node.proofs.ReducedLemmas.{reduced_node}
use Rattle.ts_node.proofs.laws.reduced_is_node.Goals as goal

pub returns : goal.returns
returns c = reduced_node
