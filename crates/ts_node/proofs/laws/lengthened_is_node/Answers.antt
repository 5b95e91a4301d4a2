use Rattle.ts_node.proofs.LengthenLemmas.{lengthened_node}
use Rattle.ts_node.proofs.laws.lengthened_is_node.Goals as goal

pub returns : goal.returns
returns c = lengthened_node
