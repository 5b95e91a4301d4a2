use Rattle.spec_forced.proofs.LongerLemmas.{whole_stands}
use Rattle.spec_forced.proofs.elements.longer_repetitions_stand.Goals as goal

pub returns : goal.returns
returns c g fit symbol extent state read rest t e es of whole own first s ends shallow =
    whole_stands c.laws_hold.ensures g fit symbol extent state t of e es read rest whole own first s ends shallow
