use Rattle.spec_history.proofs.HeldLemmas.{held_rises}
use Rattle.spec_history.proofs.laws.held_never_falls.Goals as goal

pub returns : goal.returns
returns g c = held_rises
