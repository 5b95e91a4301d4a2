use Rattle.spec_lexing.proofs.FrontLemmas.{front_prefix}
use Rattle.spec_lexing.proofs.laws.a_front_has_fronts.Goals as goal

pub returns : goal.returns
returns c = front_prefix
