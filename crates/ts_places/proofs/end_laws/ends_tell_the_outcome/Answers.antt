use Rattle.ts_places.proofs.OutcomeLemmas.{best_of_graph, last_of_graph}
use Rattle.ts_places.proofs.end_laws.ends_tell_the_outcome.Goals as goal

pub returns-clause-best : goal.returns-clause-best
returns-clause-best c t text g to ends best none e is b best_is = best_of_graph t text g to ends best none e is b best_is

pub returns-clause-last : goal.returns-clause-last
returns-clause-last c t text g to ends best none e is no_best stop stuck = last_of_graph t text g to ends best none e is no_best stop stuck
