use Rattle.spec_crossing.proofs.StandLemmas.{own_laid, own_shallow, deep_laid}
use Rattle.spec_crossing.proofs.laws.stacks_are_laid.Goals as goal

pub returns-clause-own : goal.returns-clause-own
returns-clause-own c P fit states ground over under l at = own_laid P over under l at ground

pub returns-clause-shallow : goal.returns-clause-shallow
returns-clause-shallow c P fit states ground over under l at = own_shallow P over under l at ground

pub returns-clause-deepest : goal.returns-clause-deepest
returns-clause-deepest c P fit states met over under l at = deep_laid P over under l at (record { laws = c.laws_hold.ensures; fit = fit; states = states }) met
