use Rattle.spec_forced.proofs.OnlyLemmas.{shift_alone, pass_alone, reduce_alone}
use Rattle.spec_forced.proofs.laws.one_move_is_one_step.Goals as goal

pub returns-clause-shifted : goal.returns-clause-shifted
returns-clause-shifted c g text at s pad size next only = shift_alone c.laws_hold.ensures g text at s pad size next only

pub returns-clause-passed : goal.returns-clause-passed
returns-clause-passed c g text at s pad size next extra idle = pass_alone c.laws_hold.ensures g text at s pad size next extra idle

pub returns-clause-reduced : goal.returns-clause-reduced
returns-clause-reduced c g text at s pad size number node after next only reduction shallow =
    reduce_alone c.laws_hold.ensures g text at s pad size next number node after only reduction shallow
