use Rattle.ts_node.proofs.FormLemmas.{leaf_made}
use Rattle.ts_node.proofs.ReducedLemmas.{reduced_made, accepted_made}
use Rattle.ts_node.proofs.laws.made_nodes_are_settled.Goals as goal

pub returns : goal.returns
returns c = record { leaf = leaf_made; reduced = reduced_made; accepted = accepted_made }
