use Rattle.spec_forced.proofs.ForcedLemmas.{forced_stands, stands_again, stands_rises}
use Rattle.spec_forced.proofs.laws.forced_nodes_stand.Goals as goal

pub returns-clause-forced : goal.returns-clause-forced
returns-clause-forced c = forced_stands

pub returns-clause-again : goal.returns-clause-again
returns-clause-again c = stands_again

pub returns-clause-rises : goal.returns-clause-rises
returns-clause-rises c = stands_rises
