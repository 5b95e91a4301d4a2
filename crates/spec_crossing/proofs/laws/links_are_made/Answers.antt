use Rattle.spec_graph.proofs.BaseLemmas.{ground_base}
use Rattle.spec_crossing.proofs.MadeLemmas.{link_made}
use Rattle.spec_crossing.proofs.laws.links_are_made.Goals as goal

pub returns : goal.returns
returns c P fit states ground heads links graph l there = link_made P (record { laws = c.laws_hold.ensures; fit = fit; states = states }) (ground_base P (record { laws = c.laws_hold.ensures; fit = fit; states = states }) ground) heads links graph l there
