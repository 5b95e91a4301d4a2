use Rattle.spec_marked.proofs.BytesLemmas.{behind_moved}
use Rattle.spec_marked.proofs.laws.elements_stay_behind.Goals as goal

pub returns : goal.returns
returns c g states text edit place state symbol number children extent range unmet f = behind_moved c.laws_hold.ensures g states text edit place state symbol number children extent range unmet f
