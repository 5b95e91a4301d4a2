use Rattle.ts_cursor.proofs.StandLemmas.{leaf_stand, extra_stand, reduced_stand, accepted_stand}
use Rattle.ts_cursor.proofs.laws.made_nodes_stand_over.Goals as goal

pub returns : goal.returns
returns c = record { leaf = leaf_stand; extra = extra_stand; reduced = reduced_stand; accepted = accepted_stand }
