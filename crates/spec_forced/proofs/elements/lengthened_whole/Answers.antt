use Rattle.spec_forced.proofs.LengthLemmas.{lengthened_meets}
use Rattle.spec_forced.proofs.LongerLemmas.{whole_meets}
use Rattle.spec_forced.proofs.elements.lengthened_whole.Goals as goal

pub returns-clause-meet : goal.returns-clause-meet
returns-clause-meet c g fit text below place symbol number t children extent e state of b shallow =
    lengthened_meets c.laws_hold.ensures g fit text below place symbol number t of children extent e state b shallow

pub returns-clause-all : goal.returns-clause-all
returns-clause-all c g fit text below place symbol extent state t e es of s shallow =
    whole_meets c.laws_hold.ensures g fit symbol extent state t of e es text below place s shallow
