use Rattle.ts_node.proofs.ReducedLemmas.{can_be_node, reduced_depth}
use Rattle.ts_node.proofs.laws.reduced_is_node_of_its_depth.Goals as goal

pub returns : goal.returns
returns c = record { node = can_be_node; depth = reduced_depth }
