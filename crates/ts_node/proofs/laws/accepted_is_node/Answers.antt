use Rattle.ts_node.proofs.AcceptedLemmas.{accepted_node}
use Rattle.ts_node.proofs.laws.accepted_is_node.Goals as goal

pub returns : goal.returns
returns c = accepted_node
