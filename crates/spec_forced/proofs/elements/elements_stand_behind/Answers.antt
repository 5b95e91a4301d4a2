use Rattle.spec_forced.proofs.BehindLemmas.{behind_again, behind_rises, behind_told, behind_after, behind_in_turn}
use Rattle.spec_forced.proofs.elements.elements_stand_behind.Goals as goal

pub returns-clause-again : goal.returns-clause-again
returns-clause-again c = behind_again

pub returns-clause-rises : goal.returns-clause-rises
returns-clause-rises c = behind_rises

pub returns-clause-told : goal.returns-clause-told
returns-clause-told c = behind_told

pub returns-clause-after : goal.returns-clause-after
returns-clause-after c = behind_after

pub returns-clause-in_turn : goal.returns-clause-in_turn
returns-clause-in_turn c g states text place state symbol es read s all = behind_in_turn g states text state symbol read s es place all
