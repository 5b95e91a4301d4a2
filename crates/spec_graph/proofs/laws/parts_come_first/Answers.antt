use Rattle.spec_graph.proofs.OrderLemmas.{order_inner, order_outer}
use Rattle.spec_graph.proofs.BaseLemmas.{ground_base}
use Rattle.spec_graph.proofs.laws.parts_come_first.Goals as goal

pub returns-clause-inner : goal.returns-clause-inner
returns-clause-inner c P fit states ground rank most ranked now over place end look number left n p ks extras lead can = order_inner P (record { laws = c.laws_hold.ensures; fit = fit; states = states }) (ground_base P (record { laws = c.laws_hold.ensures; fit = fit; states = states }) ground) rank most ranked now place ks end over extras look number left p n lead can

pub returns-clause-outer : goal.returns-clause-outer
returns-clause-outer c P fit states ground rank most ranked now over place end look number left p ks extras can = order_outer P (record { laws = c.laws_hold.ensures; fit = fit; states = states }) (ground_base P (record { laws = c.laws_hold.ensures; fit = fit; states = states }) ground) rank most ranked now place ks end over extras look number left p can
