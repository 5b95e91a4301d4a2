use Rattle.ts_node.proofs.LengthenLemmas.{by_one, in_turn}
use Rattle.ts_node.proofs.laws.lengthened_in_turn.Goals as goal

pub returns : goal.returns
returns c = record { one = by_one; several = in_turn }
