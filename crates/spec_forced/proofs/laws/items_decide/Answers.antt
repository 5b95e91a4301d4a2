use Rattle.spec_forced.proofs.ItemLemmas.{act_same, same_front}
use Rattle.spec_forced.proofs.laws.items_decide.Goals as goal

pub returns-clause-moves : goal.returns-clause-moves
returns-clause-moves c = act_same

pub returns-clause-front : goal.returns-clause-front
returns-clause-front c = same_front
