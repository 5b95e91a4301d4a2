use Rattle.ts_node.proofs.RemadeLemmas.{remade_node}
use Rattle.ts_node.proofs.laws.remade_is_node.Goals as goal

pub returns : goal.returns
returns c = remade_node
