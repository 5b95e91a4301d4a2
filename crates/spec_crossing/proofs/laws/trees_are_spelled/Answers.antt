use Rattle.spec_crossing.proofs.SpellLemmas.{tree_spelled}
use Rattle.spec_crossing.proofs.laws.trees_are_spelled.Goals as goal

pub returns : goal.returns
returns c g t form counted = tree_spelled g t form counted
