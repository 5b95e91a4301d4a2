use Rattle.spec_graph.proofs.KeyLemmas.{begins_whole, advance, next_place}
use Rattle.spec_graph.proofs.BaseLemmas.{ground_base}
use Rattle.spec_graph.proofs.OutcomeLemmas.{links_made}
use Rattle.spec_graph.proofs.laws.whole_to_the_next.Goals as goal

pub returns-clause-begins : goal.returns-clause-begins
returns-clause-begins c P fit states ground rank most ranked heads links start stands = begins_whole P (record { laws = c.laws_hold.ensures; fit = fit; states = states }) (ground_base P (record { laws = c.laws_hold.ensures; fit = fit; states = states }) ground) rank most ranked heads links start stands

pub returns-clause-on : goal.returns-clause-on
returns-clause-on c P fit states ground rank most ranked heads links heads' links' k m graph whole done grown added next same = advance P (record { laws = c.laws_hold.ensures; fit = fit; states = states }) (ground_base P (record { laws = c.laws_hold.ensures; fit = fit; states = states }) ground) rank most ranked heads links heads' links' k m whole done (links_made P (record { laws = c.laws_hold.ensures; fit = fit; states = states }) (ground_base P (record { laws = c.laws_hold.ensures; fit = fit; states = states }) ground) heads links graph) grown added next same

pub returns-clause-next_place : goal.returns-clause-next_place
returns-clause-next_place c P fit states ground rank most ranked heads links heads' links' k m graph whole done grown added opened next same = next_place P (record { laws = c.laws_hold.ensures; fit = fit; states = states }) (ground_base P (record { laws = c.laws_hold.ensures; fit = fit; states = states }) ground) rank most ranked heads links heads' links' k m whole done (links_made P (record { laws = c.laws_hold.ensures; fit = fit; states = states }) (ground_base P (record { laws = c.laws_hold.ensures; fit = fit; states = states }) ground) heads links graph) grown added opened next same
