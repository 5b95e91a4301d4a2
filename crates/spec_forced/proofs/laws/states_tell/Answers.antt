use Rattle.spec_forced.proofs.SoundLemmas.{stands_for, stands_after}
use Rattle.spec_forced.proofs.laws.states_tell.Goals as goal

pub returns-clause-told : goal.returns-clause-told
returns-clause-told c = stands_for

pub returns-clause-after : goal.returns-clause-after
returns-clause-after c = stands_after
