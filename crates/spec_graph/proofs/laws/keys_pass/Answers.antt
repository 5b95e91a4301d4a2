use Rattle.spec_graph.proofs.KeyLemmas.{lower_rank, earlier_start}
use Rattle.spec_graph.proofs.BaseLemmas.{ground_base}
use Rattle.spec_graph.proofs.OutcomeLemmas.{links_made}
use Rattle.spec_graph.proofs.laws.keys_pass.Goals as goal

pub returns-clause-ranks : goal.returns-clause-ranks
returns-clause-ranks c P fit states ground rank most ranked heads links graph n look begins r whole none = lower_rank P (record { laws = c.laws_hold.ensures; fit = fit; states = states }) (ground_base P (record { laws = c.laws_hold.ensures; fit = fit; states = states }) ground) rank most ranked heads links (links_made P (record { laws = c.laws_hold.ensures; fit = fit; states = states }) (ground_base P (record { laws = c.laws_hold.ensures; fit = fit; states = states }) ground) heads links graph) n look begins r whole none

pub returns-clause-starts : goal.returns-clause-starts
returns-clause-starts c P fit states ground rank most ranked heads links graph n look begins whole none = earlier_start P (record { laws = c.laws_hold.ensures; fit = fit; states = states }) (ground_base P (record { laws = c.laws_hold.ensures; fit = fit; states = states }) ground) rank most ranked heads links (links_made P (record { laws = c.laws_hold.ensures; fit = fit; states = states }) (ground_base P (record { laws = c.laws_hold.ensures; fit = fit; states = states }) ground) heads links graph) n look begins whole none
