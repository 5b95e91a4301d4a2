use Rattle.ts_cursor.proofs.NestLemmas.{in_parent}
use Rattle.ts_cursor.proofs.laws.nodes_lie_in_parents.Goals as goal

pub returns : goal.returns
returns c = in_parent
