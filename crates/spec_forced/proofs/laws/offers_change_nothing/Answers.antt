use Rattle.spec_forced.proofs.TakingLemmas.{same_outcome}
use Rattle.spec_forced.proofs.laws.offers_change_nothing.Goals as goal

pub returns : goal.returns
returns c g fit text takes rightly o = same_outcome g text takes c.laws_hold.ensures fit rightly o
