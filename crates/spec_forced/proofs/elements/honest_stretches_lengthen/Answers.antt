use Rattle.spec_forced.proofs.LongerLemmas.{stretch_meets, over_extras, stretch_on_stack}
use Rattle.spec_forced.proofs.elements.honest_stretches_lengthen.Goals as goal

pub returns-clause-meet : goal.returns-clause-meet
returns-clause-meet c g fit states text place state symbol extent s below t o some of after h shallow =
    stretch_meets c.laws_hold.ensures g fit states text symbol state s some below after t of extent place o h shallow

pub returns-clause-over_extras : goal.returns-clause-over_extras
returns-clause-over_extras c g fit states text state symbol extent s xs below t o some of after h shallow extras each stack =
    over_extras c.laws_hold.ensures g fit states text symbol state s some xs below after t of extent o h shallow extras each stack

pub returns-clause-on_stack : goal.returns-clause-on_stack
returns-clause-on_stack c g fit states text state symbol extent s below t some of spans counted after h first ends shallow stack =
    stretch_on_stack c.laws_hold.ensures g fit states text symbol state s some below after t of extent spans counted first h ends shallow stack
