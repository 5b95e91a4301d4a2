use Rattle.spec_graph.proofs.BaseLemmas.{ground_base}
use Rattle.spec_crossing.proofs.MadeLemmas.{extra_flat}
use Rattle.spec_crossing.proofs.laws.extras_are_flat.Goals as goal

pub returns : goal.returns
returns c P fit states ground heads links graph l there extra =
    extra_flat P (record { laws = c.laws_hold.ensures; fit = fit; states = states }) (ground_base P (record { laws = c.laws_hold.ensures; fit = fit; states = states }) ground) heads links graph l there extra
