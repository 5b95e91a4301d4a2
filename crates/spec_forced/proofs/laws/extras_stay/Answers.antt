use Rattle.spec_forced.proofs.LeafLemmas.{extra_stays}
use Rattle.spec_forced.proofs.laws.extras_stay.Goals as goal

pub returns : goal.returns
returns c g fit number left p at earlier valid are rest x e marked s = extra_stays c.laws_hold.ensures g fit number left p at earlier valid are rest x e marked s
