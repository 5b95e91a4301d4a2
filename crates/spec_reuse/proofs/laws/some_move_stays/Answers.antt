use Rattle.spec_reuse.proofs.StayLemmas.{some_move}
use Rattle.spec_reuse.proofs.laws.some_move_stays.Goals as goal

pub returns : goal.returns
returns c = some_move
