use Rattle.spec_forced.proofs.ForcedLemmas.{forced_stands}
use Rattle.spec_forced.proofs.NodeLemmas.{made_forced}
use Rattle.spec_trees.specs.Made.{reduced}
use Rattle.spec_forced.proofs.laws.nodes_stand.Goals as goal

pub returns : goal.returns
returns c g fit read rest number children lifted extent e state m shallow =
    forced_stands g read rest (reduced g number e state children) extent
    (made_forced c.laws_hold.ensures g fit read rest number children lifted extent e state m shallow)
