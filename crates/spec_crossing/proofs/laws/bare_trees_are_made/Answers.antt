use Rattle.spec_crossing.proofs.MadeLemmas.{bare_made}
use Rattle.spec_crossing.proofs.laws.bare_trees_are_made.Goals as goal

pub returns : goal.returns
returns c g t made = bare_made c.bare_trees.ensures.keeps g t made
