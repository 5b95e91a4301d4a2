use Rattle.spec_marked.proofs.WholeLemmas.{stays_whole}
use Rattle.spec_marked.proofs.laws.marked_trees_are_whole.Goals as goal

pub returns : goal.returns
returns c edit tree whole over = stays_whole c.laws_hold.ensures edit tree whole over
