use Rattle.spec_graph.proofs.OutcomeLemmas.{best_tree, last_stop}
use Rattle.spec_graph.proofs.laws.graphs_tell_the_outcome.Goals as goal

pub returns-clause-best : goal.returns-clause-best
returns-clause-best c P fit states fresh zero_place rank most ranked heads links k graph whole last t b = best_tree P (record { laws = c.laws_hold.ensures; fit = fit; states = states }) fresh zero_place rank most ranked heads links graph k whole last t b

pub returns-clause-last : goal.returns-clause-last
returns-clause-last c P fit states fresh zero_place rank most ranked heads links k graph whole last stop b = last_stop P (record { laws = c.laws_hold.ensures; fit = fit; states = states }) fresh zero_place rank most ranked heads links graph k whole last stop b
