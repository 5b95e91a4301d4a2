use Rattle.spec_forced.proofs.LeapLemmas.{leaping_outcome}
use Rattle.spec_forced.proofs.laws.leaps_change_nothing.Goals as goal

pub returns : goal.returns
returns c g text leaps rightly o = leaping_outcome g text leaps rightly o
