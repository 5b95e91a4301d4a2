use Rattle.spec_graph.proofs.ReplaceLemmas.{replaces_itself, replaces_chain}
use Rattle.spec_graph.proofs.BothLemmas.{better_both}
use Rattle.spec_graph.proofs.OutcomeLemmas.{laid_nodes, laid_depth}
use Rattle.spec_graph.proofs.BaseLemmas.{ground_base}
use Rattle.spec_graph.proofs.laws.trees_replace.Goals as goal

pub returns-clause-same : goal.returns-clause-same
returns-clause-same c = replaces_itself

pub returns-clause-through : goal.returns-clause-through
returns-clause-through c = replaces_chain

pub returns-clause-both : goal.returns-clause-both
returns-clause-both c old tree new alike better no_better = better_both c.laws_hold.ensures.runs.keeps old tree new alike better no_better

pub returns-clause-nodes : goal.returns-clause-nodes
returns-clause-nodes c P fit states ground now over other place end look number left p ks us l m begins folds count a = laid_nodes P (record { laws = c.laws_hold.ensures; fit = fit; states = states }) (ground_base P (record { laws = c.laws_hold.ensures; fit = fit; states = states }) ground) now over other place end look number left p ks us l m begins folds count a

pub returns-clause-depth : goal.returns-clause-depth
returns-clause-depth c P fit states ground now over place end look number left p ks l begins folds count = laid_depth P (record { laws = c.laws_hold.ensures; fit = fit; states = states }) (ground_base P (record { laws = c.laws_hold.ensures; fit = fit; states = states }) ground) now over place end look number left p ks l begins folds count
