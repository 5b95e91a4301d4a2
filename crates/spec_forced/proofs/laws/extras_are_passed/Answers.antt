use Rattle.spec_forced.proofs.PassLemmas.{passed_there, passed_again}
use Rattle.spec_forced.proofs.laws.extras_are_passed.Goals as goal

pub returns-clause-one : goal.returns-clause-one
returns-clause-one c g text at x e marked s = passed_there c.laws_hold.ensures g text at x e marked s

pub returns-clause-all : goal.returns-clause-all
returns-clause-all c g text xs below place extras s = passed_again c.laws_hold.ensures g text xs below place extras s
