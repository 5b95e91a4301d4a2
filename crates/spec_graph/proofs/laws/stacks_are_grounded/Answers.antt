use Rattle.spec_graph.proofs.ReadingLemmas.{low_reading}
use Rattle.spec_graph.proofs.BaseLemmas.{ground_of}
use Rattle.spec_graph.proofs.GroundLemmas.{start_ground, stack_made}
use Rattle.spec_graph.proofs.laws.stacks_are_grounded.Goals as goal

pub returns-clause-empty : goal.returns-clause-empty
returns-clause-empty c P fit states fresh zero_place = start_ground P (record { laws = c.laws_hold.ensures; fit = fit; states = states }) fresh zero_place

pub returns-clause-reached : goal.returns-clause-reached
returns-clause-reached c P fit states met = ground_of P (record { laws = c.laws_hold.ensures; fit = fit; states = states }) met

pub returns-clause-trees : goal.returns-clause-trees
returns-clause-trees c P fit states b reached = stack_made P (record { laws = c.laws_hold.ensures; fit = fit; states = states }) b reached

pub returns-clause-low : goal.returns-clause-low
returns-clause-low c P ground above below t at = low_reading P ground above below t at
