use Rattle.spec_forced.proofs.BehindLemmas.{first_is, made_behind, behind_makes, behind_steps}
use Rattle.spec_forced.proofs.elements.reductions_append_elements.Goals as goal

pub returns-clause-made : goal.returns-clause-made
returns-clause-made c g fit read rest number t children lifted extent left alternative p m at form =
    let laws = c.laws_hold.ensures in (
      first_is laws g fit read rest number t children lifted extent m left alternative p at form,
      made_behind laws g fit read rest number t children lifted extent m left alternative p at form,
    )

pub returns-clause-makes : goal.returns-clause-makes
returns-clause-makes c g symbol read rest number t children e extent of own first reach b =
    (b.lifted, behind_makes g symbol read rest number t children e extent of own first reach b)

pub returns-clause-steps : goal.returns-clause-steps
returns-clause-steps c g fit symbol read rest number children extent b = behind_steps c.laws_hold.ensures g fit symbol read rest number children extent b
