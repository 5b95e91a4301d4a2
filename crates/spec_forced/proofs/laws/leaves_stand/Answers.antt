use Rattle.spec_trees.specs.Made.{leaf_of, as_extra}
use Rattle.spec_forced.proofs.ForcedLemmas.{forced_stands}
use Rattle.spec_forced.proofs.LeafLemmas.{leaf_forced, extra_forced}
use Rattle.spec_forced.proofs.laws.leaves_stand.Goals as goal

pub returns-clause-leaf : goal.returns-clause-leaf
returns-clause-leaf c g read rest s pad size e extent state seen only =
    forced_stands g read rest (leaf_of s.0 pad size extent state) e (leaf_forced c.laws_hold.ensures g read rest s pad size e extent state seen only)

pub returns-clause-extra : goal.returns-clause-extra
returns-clause-extra c g read rest s pad size e extent state seen extra idle =
    forced_stands g read rest (as_extra (leaf_of s.0 pad size extent state)) e (extra_forced c.laws_hold.ensures g read rest s pad size e extent state seen extra idle)
